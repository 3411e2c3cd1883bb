-- A text has one list of tokens, and is at most one expression.
use Rattle.std.proofs.Common.{◌≡◌, ℕ, List, [], ◌∷◌, refl, arith}
use Rattle.feature_expr.specs.declared.expr.Expr.{Expr}
use Rattle.feature_expr.specs.declared.parse.Sign.TheVariants as sign
use Rattle.word_tokens.specs.declared.token.Token.{Token}
use Rattle.word_tokens.specs.declared.token.TokenKind.{TokenKind}
use Rattle.word_tokens.specs.declared.token.TokenKind.TheVariants as kind
use Rattle.word_tokens.specs.Tokens.{IfBad, StandAt, AreTokens, blank_end}
use Rattle.feature_expr.specs.ExprGrammar.{Disjunction, sign_at, Spells}
use Rattle.feature_expr.specs.ExprTexts.{IsText}
use Rattle.feature_expr.proofs.ReadingLaws.{one_spelling}

-- what stands behind two equal tokens is equal, where it is so behind one that is no fault
one_rest : (kind : TokenKind) (xs ys : List Token) (X Y : Type 0) → (X → Y → xs ≡ ys) → IfBad kind (xs ≡ []) X → IfBad kind (ys ≡ []) Y → xs ≡ ys
one_rest kind.Bad xs ys X Y good x y = cc (x, y)
one_rest kind.Word xs ys X Y good x y = good x y
one_rest (kind.Integer n) xs ys X Y good x y = good x y
one_rest (kind.Text t) xs ys X Y good x y = good x y
one_rest (kind.Param n) xs ys X Y good x y = good x y
one_rest kind.Sign xs ys X Y good x y = good x y

one_list : (text : List ℕ) (at : ℕ) (xs ys : List Token) → StandAt text at xs → StandAt text at ys → xs ≡ ys
one_list text at [] [] x y = refl
one_list text at [] (t ∷ ys) x y = absurd (omega (arith, x, y.0))
one_list text at (s ∷ xs) [] x y = absurd (omega (arith, y, x.0))
one_list text at (s ∷ xs) (t ∷ ys) x y =
    let same : s ≡ t = cc (x.1, y.1) in
    let rest : xs ≡ ys = one_rest s.kind xs ys (StandAt text (blank_end text s.end) xs) (StandAt text (blank_end text s.end) ys) (one_list text (blank_end text s.end) xs ys) x.2 (rw same y.2) in
    rw (same, rest) refl

pub one_tokens : (text : List ℕ) (xs ys : List Token) → AreTokens text xs → AreTokens text ys → xs ≡ ys
one_tokens text xs ys x y = one_list text (blank_end text 0) xs ys x.stand y.stand

ends_free : (names : List (List ℕ)) (text : List ℕ) (tokens : List Token) (x : Expr) (m : ℕ) (y : Expr) (k : ℕ) → Spells names text tokens (Disjunction 0) 0 x m → sign_at text tokens m ≡ sign.End → Spells names text tokens (Disjunction 0) 0 y k → sign_at text tokens k ≡ sign.End → x ≡ y
ends_free names text tokens x m y k d is d' is' = (one_spelling names text tokens 0 0 x m y k d d' (λ e. cc (is, e)) (λ e. cc (is, e)) (λ e. cc (is', e)) (λ e. cc (is', e))).0

pub one_text : (names : List (List ℕ)) (text : List ℕ) (most most' : ℕ) (x y : Expr) → IsText names text most x → IsText names text most' y → x ≡ y
one_text names text most most' x y t u =
    let same : u.tokens ≡ t.tokens = one_tokens text u.tokens t.tokens u.are_tokens t.are_tokens in
    ends_free names text t.tokens x t.end y u.end t.spelled t.ends (rw same at u.spelled) (rw same at u.ends)
