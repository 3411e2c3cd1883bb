-- The names of features: each is a word of its own, and is found under its number.
use Rattle.std.proofs.Common.{◌≡◌, ℕ, zero, suc, ◌+◌, ◌<◌, ◌&&◌, ◌||◌, Bool, true, false, not, if◌then◌else◌, List, [], ◌∷◌, ◌++◌, Option, Some, None, slice_get, length, get_or, nat_lt, nat_le, refl, arith}
use Rattle.std.specs.Prelude.{codes, position}
use Rattle.std.specs.List.{position_or_len}
use Rattle.std.specs.Str.{bytes_eq}
use Rattle.std.proofs.lemmas.Bool.Decides.{nat_tests}
use Rattle.std.proofs.lemmas.List.Folds.{list_any-append, list_any_at}
use Rattle.std.proofs.lemmas.Slice.Eq.{bytes_eq-Decides}
use Rattle.word_tokens.specs.Words.{is_name_of, is_word_of, same_word_as, reserved_words, is_reserved_word, name_limit}
use Rattle.feature_expr.specs.Names.{among, refusal_from, refusal}
use Rattle.feature_expr.specs.declared.features.FeaturesRefused.{FeaturesRefused}
use Rattle.feature_expr.specs.declared.features.FeaturesRefused.TheVariants as refused
use Rattle.feature_expr.specs.declared.parse.Sign.TheVariants as sign
use Rattle.feature_expr.specs.ExprGrammar.{sign_of_word}
use Rattle.word_tokens.proofs.StandLaws.{both_true}

-- a word that is no reserved one isn't the one at this place among them
pub reserved_false : (name : List ℕ) (place : ℕ) (b : Bool) → place < length reserved_words → same_word_as name (get_or reserved_words place []) ≡ b → is_reserved_word name ≡ false → b ≡ false
reserved_false name place true within same free = cc (free, list_any_at (λ word. same_word_as name word) reserved_words place [] within same)
reserved_false name place false within same free = refl

pub not_true : (b : Bool) → not b ≡ true → b ≡ false
not_true true h = cc h
not_true false h = refl

pub named_word : (name : List ℕ) → is_name_of name ≡ true → (is_word_of name ≡ true) × (is_reserved_word name ≡ false)
named_word name is =
    let parts = both_true (nat_le (length name) name_limit && is_word_of name) (not (is_reserved_word name)) is in
    ((both_true (nat_le (length name) name_limit) (is_word_of name) parts.0).1, not_true (is_reserved_word name) parts.1)

last_sign : (a b c d f g : Bool) → a ≡ false → b ≡ false → c ≡ false → d ≡ false → f ≡ false → g ≡ true → (if a then sign.Or else (if b then sign.And else (if c then sign.Not else (if d then sign.True else (if f then sign.False else (if g then sign.Feature else sign.Other)))))) ≡ sign.Feature
last_sign a b c d f g ha hb hc hd hf hg = rw (ha, hb, hc, hd, hf, hg) refl

-- a name is read as one
pub name_sign : (name : List ℕ) → is_name_of name ≡ true → sign_of_word name ≡ sign.Feature
name_sign name is =
    let free = (named_word name is).1 in
    let or = reserved_false name 18 (same_word_as name (codes "or")) (omega arith) refl free in
    let and = reserved_false name 1 (same_word_as name (codes "and")) (omega arith) refl free in
    let no = reserved_false name 16 (same_word_as name (codes "not")) (omega arith) refl free in
    let yes = reserved_false name 22 (same_word_as name (codes "true")) (omega arith) refl free in
    let off = reserved_false name 10 (same_word_as name (codes "false")) (omega arith) refl free in
    last_sign (same_word_as name (codes "or")) (same_word_as name (codes "and")) (same_word_as name (codes "not")) (same_word_as name (codes "true")) (same_word_as name (codes "false")) (is_name_of name) or and no yes off is

step_of : (a b : Bool) (x y : FeaturesRefused) (rest : Option FeaturesRefused) → (if a then (if b then Some x else rest) else Some y) ≡ None → (a ≡ true) × (b ≡ false) × (rest ≡ None)
step_of true true x y rest none = absurd (cc none)
step_of true false x y rest none = (refl, refl, none)
step_of false b x y rest none = absurd (cc none)

neither : (a b : Bool) → (a || (b || false)) ≡ false → (a ≡ false) × (b ≡ false)
neither true b h = absurd (cc h)
neither false true h = absurd (cc h)
neither false false h = (refl, refl)

below : (n i : ℕ) → i < n → nat_lt i n ≡ true
below n i h = grind (arith, nat_tests)

-- a name that is none of those before it stands first under its own number
found_from : (place : ℕ) (before names : List (List ℕ)) (i : ℕ) (name : List ℕ) → refusal_from place before names ≡ None → slice_get names i ≡ Some name → (is_name_of name ≡ true) × (among name before ≡ false) × (position_or_len (λ other. bytes_eq other name) names ≡ i) × (i < length names)
found_from place before [] i name none is = absurd (cc is)
found_from place before (x ∷ names) zero name none is =
    let same : x ≡ name = cc is in
    let step = step_of (is_name_of x) (among x before) (refused.Duplicate place) (refused.NotAName place) (refusal_from (place + 1) (before ++ x ∷ []) names) none in
    let equal : bytes_eq x name ≡ true = (bytes_eq-Decides x name).1 same in
    (rw same at step.0, rw same at step.1, rw equal refl, omega arith)
found_from place before (x ∷ names) (suc i) name none is =
    let step = step_of (is_name_of x) (among x before) (refused.Duplicate place) (refused.NotAName place) (refusal_from (place + 1) (before ++ x ∷ []) names) none in
    let rest = found_from (place + 1) (before ++ x ∷ []) names i name step.2 is in
    let apart = neither (among name before) (bytes_eq x name) (rw list_any-append at rest.1) in
    (rest.0, apart.0, rw (apart.1, rest.2) (omega arith), omega (arith, rest.3))

all_of : (n : ℕ) (why : FeaturesRefused) (rest : Option FeaturesRefused) → (if nat_lt 64 n then Some why else rest) ≡ None → rest ≡ None
all_of n why rest none = grind (arith, nat_tests)

pub feature_name : (names : List (List ℕ)) (i : ℕ) (name : List ℕ) → refusal names ≡ None → slice_get names i ≡ Some name → (is_name_of name ≡ true) × (position (λ other. bytes_eq other name) names ≡ Some i)
unfolding refusal
feature_name names i name none is =
    let found = found_from 0 [] names i name (all_of (length names) _ _ none) is in
    let within : nat_lt i (length names) ≡ true = below (length names) i found.3 in
    (found.0, rw (found.2, within) refl)
