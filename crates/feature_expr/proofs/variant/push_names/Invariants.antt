use Rattle.std.proofs.Common.{◌≡◌, true, ◌++◌, drop}
use Rattle.feature_expr.specs.Variants.{held_names, separated}
use Rattle.feature_expr.proofs.variant.push_names.Given as goal

-- what was put, and the names that are left, are the whole
abbrev pub invariant-loop-feature : goal.invariant-loop-feature
invariant-loop-feature l =
    l.text.items ++ separated l.is_first (held_names l.config l.feature (drop l.feature l.features)) ≡ l.fn.text.items ++ separated true (held_names l.config 0 l.features)
