-- The head of a catalogue's file.
use Rattle.std.proofs.Common.{Bool, true, false, ◌≡◌, ◌≤◌, ℕ, ◌+◌, List, [], ◌∷◌, ◌++◌, length, Some, None, Option, slice_get, nat_lt, append_assoc, refl, arith}
use Rattle.std.proofs.lemmas.Bool.Decides.{nat_tests}
use Rattle.std.proofs.lemmas.List.{append-nil, length-append}
use Rattle.word_tokens.specs.Words.{is_name_of}
use Rattle.feature_expr.specs.Names.{among, refusal, refusal_from}
use Rattle.feature_expr.specs.Config.{feature_limit}
use Rattle.feature_expr.specs.declared.features.FeaturesRefused.{FeaturesRefused}
use Rattle.feature_expr.specs.declared.features.FeaturesRefused.TheVariants as features_refused
use Rattle.word_tokens.specs.declared.token.Token.{Token}
use Rattle.word_tokens.specs.declared.token.TokenKind.{TokenKind}
use Rattle.word_tokens.specs.declared.token.TokenKind.TheVariants as token_kind
use Rattle.word_tokens.specs.Tokens.{bytes_of}
use Rattle.vschema.specs.Words.{stands, spelled_name_at, name_of, name_of_kind}
use Rattle.vschema.specs.Spelling.{NewFeature, FeaturesBefore, no_feature_yet, another_feature, IsHead, no_features, some_features}
use Rattle.vschema.specs.declared.words.Sign.TheVariants as sign

module _ (text : List ℕ) (tokens : List Token) where
  pub empty_head : (names : List (List ℕ)) (end : ℕ) → names ≡ [] → end ≡ 0 + 1 + 1 → stands text tokens 0 sign.Features ≡ true → stands text tokens 1 sign.Semicolon ≡ true → IsHead text tokens names end
  empty_head names end none ends features semicolon = let two : end ≡ 2 = omega arith in rw (none, two) (no_features features semicolon)

  pub head_ends : (all names : List (List ℕ)) (name : List ℕ) (at end : ℕ) → all ≡ names ++ name ∷ [] → end ≡ at + 1 + 1 → stands text tokens 0 sign.Features ≡ true → FeaturesBefore text tokens names at → NewFeature text tokens names at name → stands text tokens (at + 1) sign.Semicolon ≡ true → IsHead text tokens all end
  head_ends all names name at end is ends features before new semicolon =
      let two : end ≡ at + 2 = omega arith in rw (is, two) (some_features names name at features before new semicolon)

  name_in : (bytes name : List ℕ) (b : Bool) → is_name_of bytes ≡ b → name_of_kind token_kind.Word bytes ≡ Some name → is_name_of name ≡ true
  name_in bytes name true is e = let q : Some bytes ≡ Some name = rw is at e in cc (is, q)
  name_in bytes name false is e = let q : None ≡ Some name = rw is at e in absurd (cc q)

  name_of_the_kind : (k : TokenKind) (bytes name : List ℕ) → name_of_kind k bytes ≡ Some name → is_name_of name ≡ true
  name_of_the_kind token_kind.Word bytes name e = name_in bytes name (is_name_of bytes) refl e
  name_of_the_kind (token_kind.Integer n) bytes name e = absurd (cc e)
  name_of_the_kind (token_kind.Text t) bytes name e = absurd (cc e)
  name_of_the_kind (token_kind.Param n) bytes name e = absurd (cc e)
  name_of_the_kind token_kind.Sign bytes name e = absurd (cc e)
  name_of_the_kind token_kind.Bad bytes name e = absurd (cc e)

  name_of_token : (token : Option Token) (name : List ℕ) → name_of text token ≡ Some name → is_name_of name ≡ true
  name_of_token (Some token) name e = name_of_the_kind token.kind (bytes_of text token) name e
  name_of_token None name e = absurd (cc e)

  -- a name that is read is one
  pub is_a_name : (at : ℕ) (name : List ℕ) → spelled_name_at text tokens at ≡ Some name → is_name_of name ≡ true
  unfolding spelled_name_at
  is_a_name at name e = name_of_token (slice_get tokens at) name e

  rest_refusal : (place : ℕ) (before names : List (List ℕ)) (first : List ℕ) (b d : Bool) → is_name_of first ≡ b → among first before ≡ d → refusal_from place before (first ∷ names) ≡ None → (is_name_of first ≡ true) × (among first before ≡ false) × (refusal_from (place + 1) (before ++ first ∷ []) names ≡ None)
  rest_refusal place before names first true false i s r = (i, s, rw (i, s) at r)
  rest_refusal place before names first true true i s r = let q : Some (features_refused.Duplicate place) ≡ None = rw (i, s) at r in absurd (cc q)
  rest_refusal place before names first false d i s r = let q : Some (features_refused.NotAName place) ≡ None = rw i at r in absurd (cc q)

  refusal_more : (place : ℕ) (before names : List (List ℕ)) (name : List ℕ) → refusal_from place before names ≡ None → is_name_of name ≡ true → among name (before ++ names) ≡ false → refusal_from place before (names ++ name ∷ []) ≡ None
  refusal_more place before [] name r n a = let fresh : among name before ≡ false = rw (append-nil before) at a in rw (n, fresh) refl
  refusal_more place before (first ∷ names) name r n a =
      let rest = rest_refusal place before names first (is_name_of first) (among first before) refl refl r in
      let fresh : among name ((before ++ first ∷ []) ++ names) ≡ false = rw (append_assoc before (first ∷ []) names) a in
      rw (rest.0, rest.1) (refusal_more (place + 1) (before ++ first ∷ []) names name rest.2 n fresh)

  not_below : (n limit : ℕ) → n ≤ limit → nat_lt limit n ≡ false
  not_below n limit h = grind (arith, nat_tests)

  within_of : (names : List (List ℕ)) → length names ≤ feature_limit → refusal_from 0 [] names ≡ None → refusal names ≡ None
  unfolding refusal
  within_of names within none = rw (not_below (length names) feature_limit within) none

  before_refusal : (names : List (List ℕ)) (at : ℕ) → FeaturesBefore text tokens names at → refusal_from 0 [] names ≡ None
  before_refusal all to no_feature_yet = refl
  before_refusal all to (another_feature names name at before new comma) = refusal_more 0 [] names name (before_refusal names at before) (is_a_name at name new.named) new.fresh

  pub head_refusal : (names : List (List ℕ)) (end : ℕ) → IsHead text tokens names end → refusal names ≡ None
  head_refusal all end (no_features features semicolon) = within_of [] (omega arith) refl
  head_refusal all end (some_features names name at features before new semicolon) =
      within_of (names ++ name ∷ []) (omega (arith, length-append names (name ∷ []), new.within)) (refusal_more 0 [] names name (before_refusal names at before) (is_a_name at name new.named) new.fresh)

  pub never_refused : (names : List (List ℕ)) (end : ℕ) (why : FeaturesRefused) → IsHead text tokens names end → refusal names ≡ Some why → ⊥
  never_refused names end why head r = let none = head_refusal names end head in cc (r, none)
