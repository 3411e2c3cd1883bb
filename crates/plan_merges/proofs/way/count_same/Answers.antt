use Rattle.std.proofs.Common.{◌+◌, ap₂, ◌∙◌, refl, arith}
use Rattle.plan_merges.proofs.WayLaws.{count_more}
use Rattle.plan_tables.specs.Tables.{heading}
use Rattle.relational_algebra.specs.Columns.{same_column}
use Rattle.plan_merges.proofs.way.count_same.Goals as goal

pub loop-x-preserved : goal.loop-x-preserved
loop-x-preserved c = (
  ap₂ (λ a b. a + b) c.loop-x.invariant.0 c.count_one-count.ensures.count
      ∙ count_more (heading c.args.key.now) c.args.columns.now c.loop-x.x-index c.x-item.result (same_column (heading c.args.key.now) (heading c.x-item.result.column)) c.loop-x-test.true c.x-item.is refl,
  omega (arith, c.loop-x.invariant.1, c.count_one-count.ensures.most),
)
