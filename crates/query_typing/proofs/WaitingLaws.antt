-- Conditions that wait to be read: what one more of them, put last, adds, and what the parts of a condition are asked.
use Rattle.std.proofs.Common.{◌≡◌, ◌+◌, ◌<◌, ◌&&◌, ℕ, Bool, true, false, not, List, [], ◌∷◌, ◌++◌, refl, sym, ◌∙◌, ap, append_assoc, arith, if◌then◌else◌}
use Rattle.std.proofs.lemmas.List.{append-nil}
use Rattle.feature_expr.specs.Satisfaction.{satisfies}
use Rattle.plain_relation.specs.Relations.{Column}
use Rattle.query_meaning.specs.Cases.{Case}
use Rattle.query_meaning.specs.PlainTypes.{asked}
use Rattle.query_names.specs.Waiting.{nodes}
use Rattle.query_typing.specs.Waiting.{waiting_at, waiting_count}
use Rattle.query_typing.specs.declared.cond_cases.WaitingCond.{WaitingCond}
use Rattle.values.specs.declared.value.Kind.{Kind}

pub waiting_push : (c : List ℕ) (kinds : List Kind) (columns : List Column) (waiting : List WaitingCond) (one : WaitingCond) → waiting_at c kinds columns (waiting ++ one ∷ []) ≡ (if satisfies c one.path then asked c kinds one.cond.now columns else []) ++ waiting_at c kinds columns waiting
waiting_push c kinds columns [] one = sym (append-nil (if satisfies c one.path then asked c kinds one.cond.now columns else []))
waiting_push c kinds columns (other ∷ waiting) one =
    ap (λ (xs : List Case). xs ++ (if satisfies c other.path then asked c kinds other.cond.now columns else [])) (waiting_push c kinds columns waiting one)
    ∙ append_assoc (if satisfies c one.path then asked c kinds one.cond.now columns else []) (waiting_at c kinds columns waiting) (if satisfies c other.path then asked c kinds other.cond.now columns else [])

pub count_push : (waiting : List WaitingCond) (one : WaitingCond) → waiting_count (waiting ++ one ∷ []) ≡ waiting_count waiting + nodes one.cond.now
count_push [] one = refl
count_push (other ∷ waiting) one = ap (λ n. n + nodes other.cond.now) (count_push waiting one) ∙ omega arith

-- two parts on one path
pub both_put : (b b' : Bool) (xs ys w0 w1 w2 : List Case) → b' ≡ b → w1 ≡ (if b' then ys else []) ++ w0 → w2 ≡ (if b then xs else []) ++ w1 → w2 ≡ (if b then xs ++ ys else []) ++ w0
both_put true b' xs ys w0 w1 w2 same one two =
    two ∙ ap (λ (v : List Case). xs ++ v) (one ∙ ap (λ x. (if x then ys else []) ++ w0) same) ∙ sym (append_assoc xs ys w0)
both_put false b' xs ys w0 w1 w2 same one two = two ∙ one ∙ ap (λ x. (if x then ys else []) ++ w0) same

-- two parts on paths of which one at most is taken
pub sides_put : (p x t n o : Bool) (xs ys w0 w1 w2 : List Case) → t ≡ (p && x) → n ≡ not x → o ≡ (p && n) → w1 ≡ (if o then ys else []) ++ w0 → w2 ≡ (if t then xs else []) ++ w1 → w2 ≡ (if p then (if x then xs else ys) else []) ++ w0
sides_put true true t n o xs ys w0 w1 w2 taken neg other one two =
    two ∙ ap (λ b. (if b then xs else []) ++ w1) taken ∙ ap (λ (v : List Case). xs ++ v) (one ∙ ap (λ b. (if b then ys else []) ++ w0) (other ∙ neg))
sides_put true false t n o xs ys w0 w1 w2 taken neg other one two =
    two ∙ ap (λ b. (if b then xs else []) ++ w1) taken ∙ one ∙ ap (λ b. (if b then ys else []) ++ w0) (other ∙ neg)
sides_put false x t n o xs ys w0 w1 w2 taken neg other one two =
    two ∙ ap (λ b. (if b then xs else []) ++ w1) taken ∙ one ∙ ap (λ b. (if b then ys else []) ++ w0) other

-- the last of those that wait is read
pub last_read : (c : List ℕ) (kinds : List Kind) (columns : List Column) (before waiting next : List WaitingCond) (one : WaitingCond) (f0 f1 whole : List Case) → before ≡ waiting ++ one ∷ [] → f1 ++ waiting_at c kinds columns next ≡ f0 ++ ((if satisfies c one.path then asked c kinds one.cond.now columns else []) ++ waiting_at c kinds columns waiting) → f0 ++ waiting_at c kinds columns before ≡ whole → f1 ++ waiting_at c kinds columns next ≡ whole
last_read c kinds columns before waiting next one f0 f1 whole popped read all =
    read ∙ ap (λ (xs : List Case). f0 ++ xs) (sym (waiting_push c kinds columns waiting one)) ∙ ap (λ (ws : List WaitingCond). f0 ++ waiting_at c kinds columns ws) (sym popped) ∙ all

pub waiting_pushed : (c : List ℕ) (kinds : List Kind) (columns : List Column) (old new : List WaitingCond) (one : WaitingCond) → new ≡ old ++ one ∷ [] → waiting_at c kinds columns new ≡ (if satisfies c one.path then asked c kinds one.cond.now columns else []) ++ waiting_at c kinds columns old
waiting_pushed c kinds columns old new one is = ap (waiting_at c kinds columns) is ∙ waiting_push c kinds columns old one

pub count_smaller : (before waiting next : List WaitingCond) (one : WaitingCond) → before ≡ waiting ++ one ∷ [] → waiting_count next < waiting_count waiting + nodes one.cond.now → waiting_count next < waiting_count before
count_smaller before waiting next one popped fewer = let n = ap waiting_count popped ∙ count_push waiting one in omega (arith, n)
