use Rattle.std.proofs.Common.{ap, sym}
use Rattle.std.specs.BTreeMap.{get}
use Rattle.std.specs.Cmp.Lexicographic.{slice_cmp}
use Rattle.std.specs.Ordering.{nat_cmp}
use Rattle.query_names.proofs.NumberLaws.{none_here, put_first}
use Rattle.query_names.proofs.table_names.add_name.Goals as goal

pub returns : goal.returns
returns c = λ q. put_first c.args.name.now c.in_ok-name.name q c.args.number (get (slice_cmp nat_cmp) c.args.numbers.now c.args.name.now) (get (slice_cmp nat_cmp) c.args.numbers.now q) _ c.in_ok-name.ensures (none_here _ (c.contains_key.ensures) c.if-contains_key.false) (λ e. ap (get (slice_cmp nat_cmp) c.args.numbers.now) (sym e)) (c.in_ok-insert.ensures.updates.0 q)
