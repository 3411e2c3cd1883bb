-- When a constant, and the connectives of copies, hold.
use Rattle.std.proofs.Common.{◌≡◌, ◌∙◌, ℕ, Bool, true, ◌&&◌, List, ap}
use Rattle.conditional_columns.proofs.Connectives.{holds_True}
use Rattle.feature_expr.specs.declared.expr.Expr.{Expr}
use Rattle.feature_expr.specs.declared.expr.Expr as e
use Rattle.feature_expr.specs.Satisfaction.{satisfies}

-- an item without a condition is always kept
pub holds_always : (c : List ℕ) → satisfies c e.True ≡ true
holds_always c = holds_True c

-- copies hold where what was copied does
pub and_copied : (c : List ℕ) (one other one' other' both : Expr) → one' ≡ one → other' ≡ other → satisfies c both ≡ (satisfies c one' && satisfies c other') → satisfies c both ≡ (satisfies c one && satisfies c other)
and_copied c one other one' other' both same same' is = is ∙ ap (λ (x : Expr). satisfies c x && satisfies c other') same ∙ ap (λ (x : Expr). satisfies c one && satisfies c x) same'

pub both_say : (a b w x y : Bool) → a ≡ x → b ≡ y → w ≡ (a && b) → w ≡ (x && y)
both_say a b w x y one other is = is ∙ ap (λ v. v && b) one ∙ ap (λ v. x && v) other
