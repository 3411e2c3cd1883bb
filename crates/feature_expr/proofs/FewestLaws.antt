-- No text of an expression has fewer brackets than the printed one.
use Rattle.std.proofs.Common.{◌≡◌, ℕ, zero, suc, ◌+◌, ◌-◌, ◌<◌, ◌≤◌, ◌==◌, ◌&&◌, cond, Bool, true, false, if◌then◌else◌, List, [], ◌∷◌, ◌++◌, take, drop, length, Option, Some, None, slice_get, refl, sym, subst, ap, ◌∙◌, arith}
use Rattle.std.specs.Prelude.{codes}
use Rattle.std.specs.List.{filter, list_all, slice_range}
use Rattle.std.specs.Str.{bytes_eq}
use Rattle.std.proofs.lemmas.Bool.Decides.{nat_tests}
use Rattle.std.proofs.lemmas.List.{length-append}
use Rattle.std.proofs.lemmas.List.Elements.{filter-append}
use Rattle.std.proofs.lemmas.Slice.Eq.{bytes_eq-Decides}
use Rattle.feature_expr.specs.declared.expr.Expr.{Expr, fold-Expr, roll-Expr, map-Expr}
use Rattle.feature_expr.specs.declared.expr.Expr.TheFolds.{fold-roll-Expr, ind-Expr}
use Rattle.feature_expr.specs.declared.expr.Expr.TheVariants.{rolls-True, rolls-False, rolls-Feature, rolls-Not, rolls-And, rolls-Or}
use Rattle.feature_expr.specs.declared.expr.Expr.TheOpen.{Expr-F}
use Rattle.feature_expr.specs.declared.expr.Expr as e
use Rattle.feature_expr.specs.declared.parse.Sign.TheVariants as sign
use Rattle.feature_expr.specs.declared.print.Position.{Position}
use Rattle.feature_expr.specs.declared.print.Position.TheVariants as position
use Rattle.word_tokens.specs.declared.token.Token.{Token}
use Rattle.word_tokens.specs.declared.token.TokenKind.{TokenKind}
use Rattle.word_tokens.specs.declared.token.TokenKind.TheVariants as kind
use Rattle.word_tokens.specs.Words.{continues_word, is_word_of, is_name_of, same_word_as}
use Rattle.feature_expr.specs.Names.{refusal}
use Rattle.word_tokens.specs.Tokens.{bytes_of, is_mark, scanned_at, token_at, blank_end, IfBad, StandAt, AreTokens}
use Rattle.feature_expr.specs.ExprGrammar.{Part, Disjunction, Conjunction, Negation, sign_of_kind, sign_of_token, sign_at, Spells, one_conjunction, disjunction, one_negation, conjunction, negation, truth, falsehood, feature, brackets}
use Rattle.feature_expr.specs.ExprTexts.{IsText}
use Rattle.feature_expr.specs.Printing.{takes_and, takes_or, opening, closing, bracket_count, name_of, text_step, text_at, text_of, is_opening, open_brackets}
use Rattle.feature_expr.proofs.NameLaws.{feature_name, named_word}
use Rattle.feature_expr.proofs.OneLaws.{one_tokens}
use Rattle.feature_expr.proofs.PrintLaws.{text_at-True, text_at-False, text_at-Feature, text_at-And, text_at-Or}
use Rattle.word_tokens.proofs.StandLaws.{both_true, starts_on}
use Rattle.word_tokens.proofs.TokenLaws.{scanned_behind, blank_behind}

-- how many brackets stand in the text of a node at a position, where it is known of its parts
abbrev count_step : Expr-F (Position → ℕ) → Position → ℕ
count_step Expr-F.True at = 0
count_step Expr-F.False at = 0
count_step (Expr-F.Feature i) at = 0
count_step (Expr-F.Not inner) at = inner position.Operand
count_step (Expr-F.And left right) at = bracket_count (takes_and at) + (left position.Conjunct + right position.Operand)
count_step (Expr-F.Or left right) at = bracket_count (takes_or at) + (left position.Disjunct + right position.Conjunct)

abbrev count_at : Expr → Position → ℕ
count_at e = fold-Expr (Position → ℕ) count_step e

count_True : (p : Position) → count_at e.True p ≡ 0
count_True p = ap (λ (x : Expr). count_at x p) (sym rolls-True) ∙ ap (λ (f : Position → ℕ). f p) (fold-roll-Expr (Position → ℕ) count_step Expr-F.True)

count_False : (p : Position) → count_at e.False p ≡ 0
count_False p = ap (λ (x : Expr). count_at x p) (sym rolls-False) ∙ ap (λ (f : Position → ℕ). f p) (fold-roll-Expr (Position → ℕ) count_step Expr-F.False)

count_Feature : (i : ℕ) (p : Position) → count_at (e.Feature i) p ≡ 0
count_Feature i p = ap (λ (x : Expr). count_at x p) (sym (rolls-Feature i)) ∙ ap (λ (f : Position → ℕ). f p) (fold-roll-Expr (Position → ℕ) count_step (Expr-F.Feature i))

count_Not : (inner : Expr) (p : Position) → count_at (e.Not inner) p ≡ count_at inner position.Operand
count_Not inner p = ap (λ (x : Expr). count_at x p) (sym (rolls-Not inner)) ∙ ap (λ (f : Position → ℕ). f p) (fold-roll-Expr (Position → ℕ) count_step (Expr-F.Not inner))

count_And : (left right : Expr) (p : Position) → count_at (e.And left right) p ≡ bracket_count (takes_and p) + (count_at left position.Conjunct + count_at right position.Operand)
count_And left right p = ap (λ (x : Expr). count_at x p) (sym (rolls-And left right)) ∙ ap (λ (f : Position → ℕ). f p) (fold-roll-Expr (Position → ℕ) count_step (Expr-F.And left right))

count_Or : (left right : Expr) (p : Position) → count_at (e.Or left right) p ≡ bracket_count (takes_or p) + (count_at left position.Disjunct + count_at right position.Conjunct)
count_Or left right p = ap (λ (x : Expr). count_at x p) (sym (rolls-Or left right)) ∙ ap (λ (f : Position → ℕ). f p) (fold-roll-Expr (Position → ℕ) count_step (Expr-F.Or left right))

-- a position that takes less needs one pair of brackets more at most
record IsStep (x : Expr) : Type 0 where
  looser : count_at x position.Disjunct ≤ count_at x position.Conjunct
  tighter : count_at x position.Conjunct ≤ count_at x position.Operand
  one : count_at x position.Operand ≤ count_at x position.Disjunct + 1

step_from : (x : Expr) (a b c : ℕ) → count_at x position.Operand ≡ a → count_at x position.Conjunct ≡ b → count_at x position.Disjunct ≡ c → c ≤ b → b ≤ a → a ≤ c + 1 → IsStep x
step_from x a b c ha hb hc cb ba ac = record { looser = rw (hb, hc) cb; tighter = rw (ha, hb) ba; one = rw (ha, hc) ac }

step_at : (y : Expr-F ((x : Expr) × IsStep x)) → IsStep (roll-Expr (map-Expr ((x : Expr) × IsStep x) Expr (λ x. x.0) y))
step_at Expr-F.True = subst IsStep (sym rolls-True) (step_from e.True 0 0 0 (count_True _) (count_True _) (count_True _) (omega arith) (omega arith) (omega arith))
step_at Expr-F.False = subst IsStep (sym rolls-False) (step_from e.False 0 0 0 (count_False _) (count_False _) (count_False _) (omega arith) (omega arith) (omega arith))
step_at (Expr-F.Feature i) = subst IsStep (sym (rolls-Feature i)) (step_from (e.Feature i) 0 0 0 (count_Feature i _) (count_Feature i _) (count_Feature i _) (omega arith) (omega arith) (omega arith))
step_at (Expr-F.Not inner) = subst IsStep (sym (rolls-Not inner.0)) (step_from (e.Not inner.0) _ _ _ (count_Not inner.0 position.Operand) (count_Not inner.0 position.Conjunct) (count_Not inner.0 position.Disjunct) (omega arith) (omega arith) (omega arith))
step_at (Expr-F.And left right) = subst IsStep (sym (rolls-And left.0 right.0)) (step_from (e.And left.0 right.0) _ _ _ (count_And left.0 right.0 position.Operand) (count_And left.0 right.0 position.Conjunct) (count_And left.0 right.0 position.Disjunct) (omega arith) (omega arith) (omega arith))
step_at (Expr-F.Or left right) = subst IsStep (sym (rolls-Or left.0 right.0)) (step_from (e.Or left.0 right.0) _ _ _ (count_Or left.0 right.0 position.Operand) (count_Or left.0 right.0 position.Conjunct) (count_Or left.0 right.0 position.Disjunct) (omega arith) (omega arith) (omega arith))

is_step : (x : Expr) → IsStep x
is_step = ind-Expr IsStep (λ x y is. subst (λ z. IsStep (roll-Expr z)) is (step_at y))

-- how many elements pass a test
abbrev many : {X : Type 0} → (X → Bool) → List X → ℕ
many p xs = length (filter p xs)

more_by : {X : Type 0} (p : X → Bool) (x : X) (xs ys : List X) (b : Bool) → p x ≡ b → many p ys ≤ many p xs → many p (x ∷ ys) ≤ many p (x ∷ xs)
more_by p x xs ys true is h = rw is (omega (arith, h))
more_by p x xs ys false is h = rw is h

grown_by : {X : Type 0} (p : X → Bool) (x : X) (xs : List X) (n : ℕ) (b : Bool) → p x ≡ b → n ≤ many p xs → n ≤ many p (x ∷ xs)
grown_by p x xs n true is h = rw is (omega (arith, h))
grown_by p x xs n false is h = rw is h

first_passes : {X : Type 0} (p : X → Bool) (x : X) (xs : List X) → p x ≡ true → many p (x ∷ xs) ≡ many p xs + 1
first_passes p x xs is = rw is (omega arith)

first_fails : {X : Type 0} (p : X → Bool) (x : X) (xs : List X) → p x ≡ false → many p (x ∷ xs) ≡ many p xs
first_fails p x xs is = rw is refl

-- of the first elements, one more has no fewer
take_more : {X : Type 0} (p : X → Bool) (xs : List X) (k : ℕ) → many p (take k xs) ≤ many p (take (suc k) xs)
take_more p [] zero = omega arith
take_more p [] (suc k) = omega arith
take_more p (x ∷ xs) zero = omega arith
take_more p (x ∷ xs) (suc k) = more_by p x (take (suc k) xs) (take k xs) (p x) refl (take_more p xs k)

take_all : {X : Type 0} (p : X → Bool) (xs : List X) (k : ℕ) → many p (take k xs) ≤ many p xs
take_all p [] zero = omega arith
take_all p [] (suc k) = omega arith
take_all p (x ∷ xs) zero = omega arith
take_all p (x ∷ xs) (suc k) = more_by p x xs (take k xs) (p x) refl (take_all p xs k)

same_head : {X : Type 0} (p : X → Bool) (x : X) (xs ys : List X) (b : Bool) → p x ≡ b → many p ys ≡ many p xs + 1 → many p (x ∷ ys) ≡ many p (x ∷ xs) + 1
same_head p x xs ys true is h = rw is (omega (arith, h))
same_head p x xs ys false is h = rw is h

take_one : {X : Type 0} (p : X → Bool) (xs : List X) (k : ℕ) (x : X) → slice_get xs k ≡ Some x → p x ≡ true → many p (take (suc k) xs) ≡ many p (take k xs) + 1
take_one p [] zero x is h = absurd (cc is)
take_one p [] (suc k) x is h = absurd (cc is)
take_one p (y ∷ xs) zero x is h = let same : y ≡ x = cc is in rw (same, h) refl
take_one p (y ∷ xs) (suc k) x is h = same_head p y (take k xs) (take (suc k) xs) (p y) refl (take_one p xs k x is h)

drop_fewer : {X : Type 0} (p : X → Bool) (xs : List X) (m n : ℕ) → m ≤ n → many p (drop n xs) ≤ many p (drop m xs)
drop_fewer p [] zero zero h = omega arith
drop_fewer p [] zero (suc n) h = omega arith
drop_fewer p [] (suc m) zero h = omega arith
drop_fewer p [] (suc m) (suc n) h = omega arith
drop_fewer p (x ∷ xs) zero zero h = omega arith
drop_fewer p (x ∷ xs) zero (suc n) h = grown_by p x xs (many p (drop n xs)) (p x) refl (drop_fewer p xs zero n (omega arith))
drop_fewer p (x ∷ xs) (suc m) zero h = absurd (omega (arith, h))
drop_fewer p (x ∷ xs) (suc m) (suc n) h = drop_fewer p xs m n (omega (arith, h))

-- an opening bracket is the token of one

no_word : (a b c d f g : Bool) → (if a then sign.Or else (if b then sign.And else (if c then sign.Not else (if d then sign.True else (if f then sign.False else (if g then sign.Feature else sign.Other)))))) ≡ sign.Open → ⊥
no_word true b c d f g is = cc is
no_word false true c d f g is = cc is
no_word false false true d f g is = cc is
no_word false false false true f g is = cc is
no_word false false false false true g is = cc is
no_word false false false false false true is = cc is
no_word false false false false false false is = cc is

one_mark : (a b : Bool) → (if a then sign.Open else (if b then sign.Close else sign.Other)) ≡ sign.Open → a ≡ true
one_mark true b is = refl
one_mark false true is = absurd (cc is)
one_mark false false is = absurd (cc is)

no_last : (b : Bool) → (if b then sign.End else sign.Other) ≡ sign.Open → ⊥
no_last true is = cc is
no_last false is = cc is

opens_of : (text : List ℕ) (token : Token) (k : TokenKind) → token.kind ≡ k → sign_of_kind k (bytes_of text token) ≡ sign.Open → is_opening text token ≡ true
opens_of text token kind.Word same is = let bytes = bytes_of text token in absurd (no_word (same_word_as bytes (codes "or")) (same_word_as bytes (codes "and")) (same_word_as bytes (codes "not")) (same_word_as bytes (codes "true")) (same_word_as bytes (codes "false")) (is_name_of bytes) is)
opens_of text token kind.Sign same is = rw (same, one_mark (bytes_eq (bytes_of text token) (codes "(")) (bytes_eq (bytes_of text token) (codes ")")) is) refl
opens_of text token (kind.Integer number) same is = absurd (cc is)
opens_of text token (kind.Text chars) same is = absurd (cc is)
opens_of text token (kind.Param number) same is = absurd (cc is)
opens_of text token kind.Bad same is = absurd (cc is)

module _ (names : List (List ℕ)) (text : List ℕ) (tokens : List Token) where
  -- how many stand before a token
  abbrev before : ℕ → ℕ
  before k = many (is_opening text) (take k tokens)

  next_is : (k : ℕ) → before (k + 1) ≡ before (suc k)
  next_is k = let same : k + 1 ≡ suc k = omega arith in ap (λ (j : ℕ). before j) same

  opened_by : (k : ℕ) (found : Option Token) → slice_get tokens k ≡ found → sign_of_token text tokens k found ≡ sign.Open → before (suc k) ≡ before k + 1
  opened_by k (Some token) there is = take_one (is_opening text) tokens k token there (opens_of text token token.kind refl is)
  opened_by k None there is = absurd (no_last (k == length tokens) is)

  opened : (k : ℕ) → sign_at text tokens k ≡ sign.Open → before (k + 1) ≡ before k + 1
  unfolding sign_at
  opened k is = next_is k ∙ opened_by k (slice_get tokens k) refl is

  more : (k : ℕ) → before k ≤ before (k + 1)
  more k = let h : before k ≤ before (suc k) = take_more (is_opening text) tokens k in let same = next_is k in omega (arith, h, same)

  abbrev position_of : Part → Position
  position_of (Disjunction n) = position.Disjunct
  position_of (Conjunction n) = position.Conjunct
  position_of _ = position.Operand

  -- what spells an expression has the brackets that its text needs there
  needed : (part : Part) (at : ℕ) (expr : Expr) (end : ℕ) → Spells names text tokens part at expr end → before at + count_at expr (position_of part) ≤ before end
  needed p a x z (one_conjunction n at end expr d) = let h = needed (Conjunction n) at expr end d in let s = (is_step expr).looser in omega (arith, h, s)
  needed p a x z (disjunction n at middle end left right d is d') =
      let h = needed (Disjunction n) at left middle d in
      let g = needed (Conjunction n) (middle + 1) right end d' in
      let m = more middle in
      let c = count_Or left right position.Disjunct in
      omega (arith, h, g, m, c)
  needed p a x z (one_negation n at end expr d) = let h = needed (Negation n) at expr end d in let s = (is_step expr).tighter in omega (arith, h, s)
  needed p a x z (conjunction n at middle end left right d is d') =
      let h = needed (Conjunction n) at left middle d in
      let g = needed (Negation n) (middle + 1) right end d' in
      let m = more middle in
      let c = count_And left right position.Conjunct in
      omega (arith, h, g, m, c)
  needed p a x z (negation n at end inner is d) =
      let h = needed (Negation (n + 1)) (at + 1) inner end d in
      let m = more at in
      let c = count_Not inner position.Operand in
      omega (arith, h, m, c)
  needed p a x z (truth n at is) = let m = more at in let c = count_True position.Operand in omega (arith, m, c)
  needed p a x z (falsehood n at is) = let m = more at in let c = count_False position.Operand in omega (arith, m, c)
  needed p a x z (feature n at i is known) = let m = more at in let c = count_Feature i position.Operand in omega (arith, m, c)
  needed p a x z (brackets n at end expr is d close) =
      let h = needed (Disjunction (n + 1)) (at + 1) expr end d in
      let o = opened at is in
      let m = more end in
      let s = (is_step expr).one in
      omega (arith, h, o, m, s)

-- each opening bracket among the tokens is a byte of the text, which is 40

abbrev is_forty : ℕ → Bool
is_forty byte = byte == 40

-- where no tokens stand behind a fault
rest_of : (k : TokenKind) (X : Type 0) (text : List ℕ) (ts : List Token) (n : ℕ) → IfBad k (ts ≡ []) X → (X → open_brackets text ts ≤ n) → open_brackets text ts ≤ n
rest_of kind.Bad X text ts n is on = rw is (omega arith)
rest_of kind.Word X text ts n is on = on is
rest_of (kind.Integer i) X text ts n is on = on is
rest_of (kind.Text t) X text ts n is on = on is
rest_of (kind.Param i) X text ts n is on = on is
rest_of kind.Sign X text ts n is on = on is

begins_forty : (n : ℕ) (bytes : List ℕ) → take n bytes ≡ 40 ∷ [] → (rest : List ℕ) × (bytes ≡ 40 ∷ rest)
begins_forty zero [] is = absurd (cc is)
begins_forty zero (x ∷ bytes) is = absurd (cc is)
begins_forty (suc n) [] is = absurd (cc is)
begins_forty (suc n) (x ∷ bytes) is = (bytes, let same : x ≡ 40 = cc is in rw same refl)

one_forty : (text : List ℕ) (at : ℕ) (rest : List ℕ) → drop at text ≡ 40 ∷ rest → many is_forty (drop at text) ≡ many is_forty (drop (suc at) text) + 1
one_forty [] zero rest is = absurd (cc is)
one_forty [] (suc at) rest is = absurd (cc is)
one_forty (x ∷ text) zero rest is = let same : x ≡ 40 = cc is in rw same (omega arith)
one_forty (x ∷ text) (suc at) rest is = one_forty text at rest is

module _ (text : List ℕ) where
  token_by : (at next : ℕ) (t : Token) (ts : List Token) (b : Bool) → at < next → t.start ≡ at → is_opening text t ≡ b → open_brackets text ts ≤ many is_forty (drop next text) → open_brackets text (t ∷ ts) ≤ many is_forty (drop at text)
  token_by at next t ts true order start is rest =
      let spelled : take (t.end - t.start) (drop t.start text) ≡ 40 ∷ [] = (bytes_eq-Decides (bytes_of text t) (codes "(")).0 (both_true (is_mark t.kind) (bytes_eq (bytes_of text t) (codes "(")) is).1 in
      let begins = begins_forty (t.end - at) (drop at text) (subst (λ s. take (t.end - s) (drop s text) ≡ 40 ∷ []) start spelled) in
      let one = one_forty text at begins.0 begins.1 in
      let fewer = drop_fewer is_forty text (suc at) next (omega (arith, order)) in
      let first : open_brackets text (t ∷ ts) ≡ open_brackets text ts + 1 = first_passes (is_opening text) t ts is in
      omega (arith, rest, one, fewer, first)
  token_by at next t ts false order start is rest =
      let fewer = drop_fewer is_forty text at next (omega (arith, order)) in
      let first : open_brackets text (t ∷ ts) ≡ open_brackets text ts = first_fails (is_opening text) t ts is in
      omega (arith, rest, fewer, first)

  stand_few : (at : ℕ) (ts : List Token) → StandAt text at ts → open_brackets text ts ≤ many is_forty (drop at text)
  stand_few at [] stand = omega arith
  stand_few at (t ∷ ts) stand =
      let goes = scanned_behind text at stand.0 in
      let end : t.end ≡ (scanned_at text at).end = rw stand.1 refl in
      let blank = blank_behind text t.end in
      let rest = rest_of t.kind (StandAt text (blank_end text t.end) ts) text ts (many is_forty (drop (blank_end text t.end) text)) stand.2 (λ s. stand_few (blank_end text t.end) ts s) in
      token_by at (blank_end text t.end) t ts (is_opening text t) (omega (arith, goes, end, blank)) (rw stand.1 refl) refl rest

  tokens_few : (tokens : List Token) → AreTokens text tokens → open_brackets text tokens ≤ many is_forty text
  tokens_few tokens are = let h = stand_few (blank_end text 0) tokens are.stand in let d = drop_fewer is_forty text 0 (blank_end text 0) (omega arith) in omega (arith, h, d)

-- a printed text has the brackets that it needs

forties : (xs ys : List ℕ) → many is_forty (xs ++ ys) ≡ many is_forty xs + many is_forty ys
forties xs ys = rw (filter-append is_forty xs ys) (length-append (filter is_forty xs) (filter is_forty ys))

no_forty : (x : ℕ) (b : Bool) → (x == 40) ≡ b → continues_word x ≡ true → b ≡ false
no_forty x true is word = let same : x ≡ 40 = grind (arith, nat_tests) in absurd (cc (rw same at word))
no_forty x false is word = refl

word_forties : (word : List ℕ) → list_all continues_word word ≡ true → many is_forty word ≡ 0
word_forties [] all = refl
word_forties (x ∷ word) all =
    let parts = both_true (continues_word x) (list_all continues_word word) all in
    rw (no_forty x (x == 40) refl parts.0) (word_forties word parts.1)

whole_word : (name : List ℕ) → is_word_of name ≡ true → list_all continues_word name ≡ true
whole_word [] is = absurd (cc is)
whole_word (x ∷ name) is = let parts = both_true _ (list_all continues_word name) is in rw (starts_on x parts.0, parts.1) refl

opening_forties : (b : Bool) → many is_forty (opening b) ≡ bracket_count b
opening_forties true = refl
opening_forties false = refl

closing_forties : (b : Bool) → many is_forty (closing b) ≡ 0
closing_forties true = refl
closing_forties false = refl

-- a chain in its brackets
chain_forties : (b : Bool) (left word right : List ℕ) → many is_forty word ≡ 0 → many is_forty (opening b ++ left ++ word ++ right ++ closing b) ≡ bracket_count b + (many is_forty left + many is_forty right)
chain_forties b left word right none =
    let p = forties (opening b ++ left ++ word ++ right) (closing b) in
    let q = forties (opening b ++ left ++ word) right in
    let r = forties (opening b ++ left) word in
    let s = forties (opening b) left in
    let o = opening_forties b in
    let c = closing_forties b in
    omega (arith, p, q, r, s, o, c, none)

-- the same, where it is known how many stand in the sides
chained : (b : Bool) (whole left word right : List ℕ) (n l r : ℕ) → whole ≡ opening b ++ left ++ word ++ right ++ closing b → many is_forty word ≡ 0 → many is_forty left ≡ l → many is_forty right ≡ r → n ≡ bracket_count b + (l + r) → many is_forty whole ≡ n
chained b whole left word right n l r is none hl hr hn = let h = chain_forties b left word right none in rw is (omega (arith, h, hl, hr, hn))

prefixed : (whole word inner : List ℕ) (n i : ℕ) → whole ≡ word ++ inner → many is_forty word ≡ 0 → many is_forty inner ≡ i → n ≡ i → many is_forty whole ≡ n
prefixed whole word inner n i is none hi hn = let h = forties word inner in rw is (omega (arith, h, none, hi, hn))

module _ (names : List (List ℕ)) (good : refusal names ≡ None) where
  abbrev IsCounted : Expr → Type 0
  IsCounted x = (p : Position) → many is_forty (text_at names x p) ≡ count_at x p

  name_forties : (i : ℕ) (found : Option (List ℕ)) → slice_get names i ≡ found → many is_forty (name_of names i) ≡ 0
  name_forties i (Some name) there = rw there (word_forties name (whole_word name (named_word name (feature_name names i name good there).0).0))
  name_forties i None there = rw there refl

  text_Not : (inner : Expr) (p : Position) → text_at names (e.Not inner) p ≡ codes "not " ++ text_at names inner position.Operand
  text_Not inner p = ap (λ (x : Expr). text_at names x p) (sym (rolls-Not inner)) ∙ ap (λ (f : Position → List ℕ). f p) (fold-roll-Expr (Position → List ℕ) (text_step names) (Expr-F.Not inner))

  counted_at : (y : Expr-F ((x : Expr) × IsCounted x)) → IsCounted (roll-Expr (map-Expr ((x : Expr) × IsCounted x) Expr (λ x. x.0) y))
  counted_at Expr-F.True = subst IsCounted (sym rolls-True) (λ p. rw (text_at-True names p, count_True p) refl)
  counted_at Expr-F.False = subst IsCounted (sym rolls-False) (λ p. rw (text_at-False names p, count_False p) refl)
  counted_at (Expr-F.Feature i) = subst IsCounted (sym (rolls-Feature i)) (λ p. rw (text_at-Feature names i p, count_Feature i p) (name_forties i (slice_get names i) refl))
  counted_at (Expr-F.Not inner) = subst IsCounted (sym (rolls-Not inner.0)) (λ p. prefixed (text_at names (e.Not inner.0) p) (codes "not ") (text_at names inner.0 position.Operand) (count_at (e.Not inner.0) p) (count_at inner.0 position.Operand) (text_Not inner.0 p) refl (inner.1 position.Operand) (count_Not inner.0 p))
  counted_at (Expr-F.And left right) = subst IsCounted (sym (rolls-And left.0 right.0)) (λ p. chained (takes_and p) (text_at names (e.And left.0 right.0) p) (text_at names left.0 position.Conjunct) (codes " and ") (text_at names right.0 position.Operand) (count_at (e.And left.0 right.0) p) (count_at left.0 position.Conjunct) (count_at right.0 position.Operand) (text_at-And names left.0 right.0 p) refl (left.1 position.Conjunct) (right.1 position.Operand) (count_And left.0 right.0 p))
  counted_at (Expr-F.Or left right) = subst IsCounted (sym (rolls-Or left.0 right.0)) (λ p. chained (takes_or p) (text_at names (e.Or left.0 right.0) p) (text_at names left.0 position.Disjunct) (codes " or ") (text_at names right.0 position.Conjunct) (count_at (e.Or left.0 right.0) p) (count_at left.0 position.Disjunct) (count_at right.0 position.Conjunct) (text_at-Or names left.0 right.0 p) refl (left.1 position.Disjunct) (right.1 position.Conjunct) (count_Or left.0 right.0 p))

  is_counted : (x : Expr) → IsCounted x
  is_counted = ind-Expr IsCounted (λ x y is. subst (λ z. IsCounted (roll-Expr z)) is (counted_at y))

  pub fewest : (text : List ℕ) (most : ℕ) (expr : Expr) (tokens printed : List Token) → IsText names text most expr → AreTokens text tokens → AreTokens (text_of names expr) printed → open_brackets (text_of names expr) printed ≤ open_brackets text tokens
  fewest text most expr tokens printed t are are' =
      let same : t.tokens ≡ tokens = one_tokens text t.tokens tokens t.are_tokens are in
      let h = needed names text t.tokens (Disjunction 0) 0 expr t.end t.spelled in
      let all = take_all (is_opening text) t.tokens t.end in
      let few = tokens_few (text_of names expr) printed are' in
      let counted = is_counted expr position.Disjunct in
      let size : open_brackets text t.tokens ≡ open_brackets text tokens = ap (open_brackets text) same in
      omega (arith, h, all, few, counted, size)
