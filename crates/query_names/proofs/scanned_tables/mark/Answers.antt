use Rattle.std.proofs.Common.{arith, refl}
use Rattle.query_names.proofs.ScanLaws.{mark_set, mark_kept}
use Rattle.query_names.proofs.scanned_tables.mark.Goals as goal

pub returns-then-place-len-clause-each : goal.returns-then-place-len-clause-each
returns-then-place-len-clause-each c = λ k below. mark_set c.args.marks.now.items _ c.args.number k (let l = c.args.marks.now.ok.0 in omega (arith, l, c.if-place-len.true, c.len.ensures)) refl

pub returns-else-place-len-clause-each : goal.returns-else-place-len-clause-each
returns-else-place-len-clause-each c = λ k below. mark_kept c.args.marks.now.items c.args.number k (let l = c.args.marks.now.ok.0 in omega (arith, l, c.if-place-len.false, c.len.ensures)) below
