use Rattle.plan_merges.proofs.CodeLaws.{pair_made, pair_nowhere}
use Rattle.plan_merges.proofs.join.put_pair.Goals as goal

pub returns-then-is_false-clause-made : goal.returns-then-is_false-clause-made
returns-then-is_false-clause-made g c =
    pair_nowhere c.args.cond.now c.args.columns.now c.args.others.now c.args.row.now c.args.other.now c.args.out.now.items c.in_ok-truth.truth c.as_slice.result.now c.as_slice-2.result.now c.is_false.result
    c.in_ok-truth.ensures c.as_slice.ensures c.as_slice-2.ensures c.is_false.ensures c.if-is_false.true

pub returns-clause-made : goal.returns-clause-made
returns-clause-made g c =
    pair_made c.args.cond.now c.args.columns.now c.args.others.now c.args.row.now c.args.other.now c.args.out.now.items c.put_under.new.out.items c.in_ok-truth.truth c.in_ok-cond.cond c.in_ok-cells.field-0.cond c.in_ok-cells.field-0.cells c.as_slice.result.now c.as_slice-2.result.now
    c.in_ok-truth.ensures c.as_slice.ensures c.as_slice-2.ensures c.in_ok-cells.ensures.pair.cells c.in_ok-cells.ensures.folded c.in_ok-cond.ensures.folded c.in_ok-put_under.ensures
