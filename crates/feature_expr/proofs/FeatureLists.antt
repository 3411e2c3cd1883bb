-- Lists of names that can be those of features.
use Rattle.std.proofs.Common.{◌≡◌, ℕ, ◌≤◌, List, length, Option, None, Some, if◌then◌else◌, nat_lt, arith}
use Rattle.std.proofs.lemmas.Bool.Decides.{nat_tests}
use Rattle.feature_expr.specs.Names.{refusal}
use Rattle.feature_expr.specs.declared.features.FeaturesRefused.{FeaturesRefused}

within_limit : (n : ℕ) (why : FeaturesRefused) (rest : Option FeaturesRefused) → (if nat_lt 64 n then Some why else rest) ≡ None → n ≤ 64
within_limit n why rest none = grind (arith, nat_tests)

pub at_most_64 : (names : List (List ℕ)) → refusal names ≡ None → length names ≤ 64
unfolding refusal
at_most_64 names none = within_limit (length names) _ _ none
