use Rattle.std.proofs.Common.{◌≡◌, ℕ, List}
use Rattle.feature_expr.specs.Satisfaction.{satisfies}
use Rattle.simple_conditions.proofs.known.is_link.Given as goal

-- where what is left has the value, the whole chain has it
abbrev pub invariant-loop-at : goal.invariant-loop-at
invariant-loop-at l = (c : List ℕ) → satisfies c l.at ≡ l.value → satisfies c l.fn.chain ≡ l.value
