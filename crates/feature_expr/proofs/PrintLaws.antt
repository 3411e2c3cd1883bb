-- Texts that are printed from the left, with what stands behind them.
use Rattle.std.proofs.Common.{◌≡◌, ℕ, ◌+◌, ◌<◌, ◌≤◌, List, Some, [], ◌∷◌, ◌++◌, All, sym, ap, ◌∙◌, append_assoc, arith, rules}
use Rattle.std.specs.Prelude.{codes}
use Rattle.std.proofs.lemmas.List.Elements.{All-push, All-pop}
use Rattle.std.proofs.lemmas.List.{append-nil}
use Rattle.std.specs.Borrow.{Bor}
use Rattle.feature_expr.specs.declared.expr.Expr.{Expr, size-Expr}
use Rattle.feature_expr.specs.declared.expr.Expr.TheViews.{the_lemmas}
use Rattle.feature_expr.specs.declared.expr.Expr.TheFolds.{fold-roll-Expr}
use Rattle.feature_expr.specs.declared.expr.Expr.TheVariants.{rolls-True, rolls-False, rolls-Feature, rolls-And, rolls-Or}
use Rattle.feature_expr.specs.declared.expr.Expr.TheOpen.{Expr-F}
use Rattle.feature_expr.specs.declared.expr.Expr as e
use Rattle.feature_expr.specs.declared.print.Position.{Position}
use Rattle.feature_expr.specs.declared.print.Position.TheVariants as position
use Rattle.feature_expr.specs.declared.print.Rest.{Rest}
use Rattle.feature_expr.specs.declared.print.Rest.TheVariants as rest
use Rattle.feature_expr.specs.Printing.{takes_and, takes_or, opening, closing, name_of, text_step, text_at}
use Rattle.feature_expr.specs.Rests.{text_behind, texts_behind, IsShallower}

pub texts_behind_push : (names : List (List ℕ)) (rs : List Rest) (r : Rest) → texts_behind names (rs ++ r ∷ []) ≡ text_behind names r ++ texts_behind names rs
texts_behind_push names [] r = sym (append-nil _)
texts_behind_push names (s ∷ rs) r = rw (texts_behind_push names rs r, append_assoc)

pub text_at-And : (names : List (List ℕ)) (left right : Expr) (p : Position) → text_at names (e.And left right) p ≡ opening (takes_and p) ++ text_at names left position.Conjunct ++ codes " and " ++ text_at names right position.Operand ++ closing (takes_and p)
text_at-And names left right p = ap (λ (x : Expr). text_at names x p) (sym (rolls-And left right)) ∙ ap (λ (f : Position → List ℕ). f p) (fold-roll-Expr (Position → List ℕ) (text_step names) (Expr-F.And left right))

pub text_at-Or : (names : List (List ℕ)) (left right : Expr) (p : Position) → text_at names (e.Or left right) p ≡ opening (takes_or p) ++ text_at names left position.Disjunct ++ codes " or " ++ text_at names right position.Conjunct ++ closing (takes_or p)
text_at-Or names left right p = ap (λ (x : Expr). text_at names x p) (sym (rolls-Or left right)) ∙ ap (λ (f : Position → List ℕ). f p) (fold-roll-Expr (Position → List ℕ) (text_step names) (Expr-F.Or left right))

pub text_at-True : (names : List (List ℕ)) (p : Position) → text_at names e.True p ≡ codes "true"
text_at-True names p = ap (λ (x : Expr). text_at names x p) (sym rolls-True) ∙ ap (λ (f : Position → List ℕ). f p) (fold-roll-Expr (Position → List ℕ) (text_step names) Expr-F.True)

pub text_at-False : (names : List (List ℕ)) (p : Position) → text_at names e.False p ≡ codes "false"
text_at-False names p = ap (λ (x : Expr). text_at names x p) (sym rolls-False) ∙ ap (λ (f : Position → List ℕ). f p) (fold-roll-Expr (Position → List ℕ) (text_step names) Expr-F.False)

pub text_at-Feature : (names : List (List ℕ)) (i : ℕ) (p : Position) → text_at names (e.Feature i) p ≡ name_of names i
text_at-Feature names i p = ap (λ (x : Expr). text_at names x p) (sym (rolls-Feature i)) ∙ ap (λ (f : Position → List ℕ). f p) (fold-roll-Expr (Position → List ℕ) (text_step names) (Expr-F.Feature i))

size_And : (left right : Expr) → (size-Expr left < size-Expr (e.And left right)) × (size-Expr right < size-Expr (e.And left right))
size_And left right = search (rules, the_lemmas, rolls-And left right)

size_Or : (left right : Expr) → (size-Expr left < size-Expr (e.Or left right)) × (size-Expr right < size-Expr (e.Or left right))
size_Or left right = search (rules, the_lemmas, rolls-Or left right)

-- one node further down the left side
pub and_down : (names : List (List ℕ)) (text text' whole : List ℕ) (at left : Expr) (right : Bor Expr) (p : Position) (rs rs' : List Rest) → at ≡ e.And left right.now → text' ≡ text ++ opening (takes_and p) → rs' ≡ rs ++ rest.And right p ∷ [] → text ++ (text_at names at p ++ texts_behind names rs) ≡ whole → text' ++ (text_at names left position.Conjunct ++ texts_behind names rs') ≡ whole
and_down names text text' whole at left right p rs rs' is opened pushed h =
    let h' = simp append_assoc at (rw (is, text_at-And names left right.now p) at h) in
    rw (opened, pushed, texts_behind_push names rs (rest.And right p)) (simp append_assoc h')

pub or_down : (names : List (List ℕ)) (text text' whole : List ℕ) (at left : Expr) (right : Bor Expr) (p : Position) (rs rs' : List Rest) → at ≡ e.Or left right.now → text' ≡ text ++ opening (takes_or p) → rs' ≡ rs ++ rest.Or right p ∷ [] → text ++ (text_at names at p ++ texts_behind names rs) ≡ whole → text' ++ (text_at names left position.Disjunct ++ texts_behind names rs') ≡ whole
or_down names text text' whole at left right p rs rs' is opened pushed h =
    let h' = simp append_assoc at (rw (is, text_at-Or names left right.now p) at h) in
    rw (opened, pushed, texts_behind_push names rs (rest.Or right p)) (simp append_assoc h')

-- its depth, and that of what is kept
pub and_smaller : (n : ℕ) (at left right : Expr) → at ≡ e.And left right → size-Expr at ≤ n → (size-Expr left ≤ n) × (size-Expr right + 1 ≤ n)
and_smaller n at left right is h = let s = size_And left right in let h' = rw is at h in (omega arith, omega arith)

pub or_smaller : (n : ℕ) (at left right : Expr) → at ≡ e.Or left right → size-Expr at ≤ n → (size-Expr left ≤ n) × (size-Expr right + 1 ≤ n)
or_smaller n at left right is h = let s = size_Or left right in let h' = rw is at h in (omega arith, omega arith)

pub shallower_push : (n : ℕ) (rs rs' : List Rest) (r : Rest) → rs' ≡ rs ++ r ∷ [] → All (IsShallower n) rs → IsShallower n r → All (IsShallower n) rs'
shallower_push n rs rs' r pushed all one = rw pushed (All-push (IsShallower n) rs r all one)

-- the end of the left side
pub leaf_down : (names : List (List ℕ)) (text text' whole own : List ℕ) (at leaf : Expr) (p : Position) (rs : List Rest) → at ≡ leaf → text_at names leaf p ≡ own → text' ≡ text ++ own → text ++ (text_at names at p ++ texts_behind names rs) ≡ whole → text' ++ texts_behind names rs ≡ whole
leaf_down names text text' whole own at leaf p rs is writes printed h =
    let h' = rw (is, writes) at h in
    rw (printed, append_assoc) h'

-- one node back up
pub rest_up : (names : List (List ℕ)) (text text' whole : List ℕ) (r : Rest) (rs rs' : List Rest) → rs ≡ rs' ++ r ∷ [] → text' ≡ text ++ text_behind names r → text ++ texts_behind names rs ≡ whole → text' ++ texts_behind names rs' ≡ whole
rest_up names text text' whole r rs rs' popped printed h =
    let h' = rw (popped, texts_behind_push names rs' r) at h in
    rw (printed, append_assoc) h'

pub shallower_pop : (n : ℕ) (rs rs' : List Rest) (r : Rest) → rs ≡ rs' ++ r ∷ [] → All (IsShallower n) rs → All (IsShallower n) rs'
shallower_pop n rs rs' r popped all = (All-pop (IsShallower n) rs rs' (Some r) popped all).0
