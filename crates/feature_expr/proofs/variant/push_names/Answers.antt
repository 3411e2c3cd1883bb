use Rattle.std.proofs.Common.{sym, ◌∙◌, arith}
use Rattle.feature_expr.proofs.VariantLaws.{name_put, name_skipped}
use Rattle.feature_expr.proofs.variant.push_names.Goals as goal
use Rattle.feature_expr.proofs.variant.push_names.Goals.{then-holds+in_ok-push_name, else-holds}

pub loop-feature-preserved : goal.loop-feature-preserved
loop-feature-preserved c =
    elim c.if-holds.branch [
      | then-holds+in_ok-push_name w ↦
          rw (w.text-is, w.is_first-is, w.in_ok-push_name.ensures)
          (name_put c.loop-feature.text.items c.loop-feature.is_first c.args.config.now c.args.features.now c.loop-feature.feature w.name.result.now w.name.ensures (sym c.holds.ensures ∙ w.if-holds.true) ∙ c.loop-feature.invariant)
      | else-holds w ↦
          rw (w.text-is, w.is_first-is)
          (name_skipped c.loop-feature.text.items c.loop-feature.is_first c.args.config.now c.args.features.now c.loop-feature.feature (omega (arith, c.count-feature-end.ensures.count)) (sym c.holds.ensures ∙ w.if-holds.false) ∙ c.loop-feature.invariant)
    ]
