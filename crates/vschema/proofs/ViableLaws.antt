-- Up to which token a file goes on the grammar, a step at a time.
use Rattle.std.proofs.Common.{Bool, true, false, ◌≡◌, ◌∙◌, sym, ◌<◌, ◌==◌, ℕ, ◌+◌, List, [], ◌∷◌, ◌++◌, length, Option, Some, None, map, subst, slice_get, is_some, codes, inl, inr, refl, arith}
use Rattle.std.specs.Str.{bytes_eq}
use Rattle.std.specs.Char.{to_ascii_lowercase}
use Rattle.std.proofs.lemmas.Option.{slice_get_past}
use Rattle.std.proofs.lemmas.Bool.{and_parts}
use Rattle.std.proofs.lemmas.Bool.Decides.{nat_tests}
use Rattle.std.proofs.lemmas.Slice.Eq.{bytes_eq-Decides}
use Rattle.word_tokens.specs.Words.{same_word_as}
use Rattle.word_tokens.specs.Tokens.{bytes_of, is_word, is_mark, is_word_of_text, is_mark_of_text}
use Rattle.word_tokens.specs.Grammar.{Terminal, Nonterminal, AnyOf, IsFree, FaultAt}
use Rattle.word_tokens.proofs.GrammarLaws.{here, open_part, close_part, open_sign, close_sign}
use Rattle.feature_expr.specs.ExprGrammar.{Part, Mark, Foreign, Outer, Disjunction, signs_of, forms, fits, sign_of_word, sign_at, IsRefused, sign_of_token, sign_of_kind, sign_of_mark}
use Rattle.feature_expr.specs.declared.expr.Expr.{Expr}
use Rattle.feature_expr.specs.declared.parse.Fault.{Fault}
use Rattle.feature_expr.specs.declared.parse.Fault.TheVariants as expr_fault
use Rattle.word_tokens.specs.declared.token.Token.{Token}
use Rattle.word_tokens.specs.declared.token.TokenKind.{TokenKind}
use Rattle.word_tokens.specs.declared.token.TokenKind.TheVariants as token_kind
use Rattle.feature_expr.specs.Nesting.{nesting_limit}
use Rattle.vschema.specs.Words.{stands, name_of, name_of_kind, spelled_name_at}
use Rattle.vschema.specs.Spelling.{IsExpression}
use Rattle.vschema.specs.Faults.{fault_of}
use Rattle.vschema.specs.CatalogueGrammar.{Form, fitting, outer, Expression, Goes, IsViable, IsFirstFileFault, IsViableFault, FEATURES, Names, ModelLine, Entries}
use Rattle.vschema.specs.declared.words.Sign.{Sign}
use Rattle.vschema.specs.declared.words.Sign.TheVariants as sign

abbrev pub class_of_kind : TokenKind → ℕ
class_of_kind token_kind.Word = 1
class_of_kind token_kind.Sign = 2
class_of_kind _ = 3

-- no token, a word, a sign, or another one
abbrev pub class_of : Option Token → ℕ
class_of None = 0
class_of (Some token) = class_of_kind token.kind

word_kind : (k : TokenKind) → is_word k ≡ true → class_of_kind k ≡ 1
word_kind token_kind.Word e = refl
word_kind (token_kind.Integer n) e = absurd (cc e)
word_kind (token_kind.Text t) e = absurd (cc e)
word_kind (token_kind.Param n) e = absurd (cc e)
word_kind token_kind.Sign e = absurd (cc e)
word_kind token_kind.Bad e = absurd (cc e)

mark_kind : (k : TokenKind) → is_mark k ≡ true → class_of_kind k ≡ 2
mark_kind token_kind.Sign e = refl
mark_kind (token_kind.Integer n) e = absurd (cc e)
mark_kind (token_kind.Text t) e = absurd (cc e)
mark_kind (token_kind.Param n) e = absurd (cc e)
mark_kind token_kind.Word e = absurd (cc e)
mark_kind token_kind.Bad e = absurd (cc e)

name_kind : (k : TokenKind) (bytes name : List ℕ) → name_of_kind k bytes ≡ Some name → class_of_kind k ≡ 1
name_kind token_kind.Word bytes name e = refl
name_kind (token_kind.Integer n) bytes name e = absurd (cc e)
name_kind (token_kind.Text t) bytes name e = absurd (cc e)
name_kind (token_kind.Param n) bytes name e = absurd (cc e)
name_kind token_kind.Sign bytes name e = absurd (cc e)
name_kind token_kind.Bad bytes name e = absurd (cc e)

module _ (text : List ℕ) where
  word_class : (word : List ℕ) (token : Option Token) → is_word_of_text text word token ≡ true → class_of token ≡ 1
  word_class word (Some token) e = word_kind token.kind (and_parts (is_word token.kind) (same_word_as (bytes_of text token) word) e).0
  word_class word None e = absurd (cc e)

  mark_class : (mark : List ℕ) (token : Option Token) → is_mark_of_text text mark token ≡ true → class_of token ≡ 2
  mark_class mark (Some token) e = mark_kind token.kind (and_parts (is_mark token.kind) (bytes_eq (bytes_of text token) mark) e).0
  mark_class mark None e = absurd (cc e)

  name_class : (name : List ℕ) (token : Option Token) → name_of text token ≡ Some name → class_of token ≡ 1
  name_class name (Some token) e = name_kind token.kind (bytes_of text token) name e
  name_class name None e = absurd (cc e)

  -- two words that differ aren't one token
  two_words : (one other : List ℕ) (token : Option Token) → bytes_eq (map to_ascii_lowercase one) (map to_ascii_lowercase other) ≡ false → is_word_of_text text one token ≡ true → is_word_of_text text other token ≡ true → ⊥
  two_words one other (Some token) apart is is' =
      let p = (and_parts (is_word token.kind) (same_word_as (bytes_of text token) one) is).1 in
      let q = (and_parts (is_word token.kind) (same_word_as (bytes_of text token) other) is').1 in
      let low = map to_ascii_lowercase (bytes_of text token) in
      let e : low ≡ map to_ascii_lowercase one = (bytes_eq-Decides low (map to_ascii_lowercase one)).0 p in
      let f : low ≡ map to_ascii_lowercase other = (bytes_eq-Decides low (map to_ascii_lowercase other)).0 q in
      let same = (bytes_eq-Decides (map to_ascii_lowercase one) (map to_ascii_lowercase other)).1 (sym e ∙ f) in
      cc (same, apart)
  two_words one other None apart is is' = cc is

  two_marks : (one other : List ℕ) (token : Option Token) → bytes_eq one other ≡ false → is_mark_of_text text one token ≡ true → is_mark_of_text text other token ≡ true → ⊥
  two_marks one other (Some token) apart is is' =
      let p = (and_parts (is_mark token.kind) (bytes_eq (bytes_of text token) one) is).1 in
      let q = (and_parts (is_mark token.kind) (bytes_eq (bytes_of text token) other) is').1 in
      let e : bytes_of text token ≡ one = (bytes_eq-Decides (bytes_of text token) one).0 p in
      let f : bytes_of text token ≡ other = (bytes_eq-Decides (bytes_of text token) other).0 q in
      let same = (bytes_eq-Decides one other).1 (sym e ∙ f) in
      cc (same, apart)
  two_marks one other None apart is is' = cc is

abbrev pub grammar : Part → List Form
grammar = forms outer nesting_limit

module _ (text : List ℕ) (tokens : List Token) where
  abbrev pub token_fits : Mark → ℕ → Type 0
  token_fits = fits (fitting text tokens) text tokens

  abbrev pub class_at : ℕ → ℕ
  class_at at = class_of (slice_get tokens at)

  abbrev pub class_of_sign : Sign → ℕ
  class_of_sign sign.Features = 1
  class_of_sign sign.Model = 1
  class_of_sign sign.Table = 1
  class_of_sign sign.Row = 1
  class_of_sign sign.When = 1
  class_of_sign sign.Open = 2
  class_of_sign sign.Close = 2
  class_of_sign sign.Comma = 2
  class_of_sign sign.Semicolon = 2

  pub sign_class : (s : Sign) (at : ℕ) → stands text tokens at s ≡ true → class_at at ≡ class_of_sign s
  unfolding stands
  sign_class sign.Features at e = word_class text (codes "features") (slice_get tokens at) e
  sign_class sign.Model at e = word_class text (codes "model") (slice_get tokens at) e
  sign_class sign.Table at e = word_class text (codes "table") (slice_get tokens at) e
  sign_class sign.Row at e = word_class text (codes "row") (slice_get tokens at) e
  sign_class sign.When at e = word_class text (codes "when") (slice_get tokens at) e
  sign_class sign.Open at e = mark_class text (codes "(") (slice_get tokens at) e
  sign_class sign.Close at e = mark_class text (codes ")") (slice_get tokens at) e
  sign_class sign.Comma at e = mark_class text (codes ",") (slice_get tokens at) e
  sign_class sign.Semicolon at e = mark_class text (codes ";") (slice_get tokens at) e

  pub comma_semicolon : (at : ℕ) → stands text tokens at sign.Comma ≡ true → stands text tokens at sign.Semicolon ≡ true → ⊥
  unfolding stands
  comma_semicolon at e f = two_marks text (codes ",") (codes ";") (slice_get tokens at) refl e f

  pub comma_close : (at : ℕ) → stands text tokens at sign.Comma ≡ true → stands text tokens at sign.Close ≡ true → ⊥
  unfolding stands
  comma_close at e f = two_marks text (codes ",") (codes ")") (slice_get tokens at) refl e f

  pub model_table : (at : ℕ) → stands text tokens at sign.Model ≡ true → stands text tokens at sign.Table ≡ true → ⊥
  unfolding stands
  model_table at e f = two_words text (codes "model") (codes "table") (slice_get tokens at) refl e f

  pub model_row : (at : ℕ) → stands text tokens at sign.Model ≡ true → stands text tokens at sign.Row ≡ true → ⊥
  unfolding stands
  model_row at e f = two_words text (codes "model") (codes "row") (slice_get tokens at) refl e f

  pub table_row : (at : ℕ) → stands text tokens at sign.Table ≡ true → stands text tokens at sign.Row ≡ true → ⊥
  unfolding stands
  table_row at e f = two_words text (codes "table") (codes "row") (slice_get tokens at) refl e f

  -- a sign isn't one of another class
  pub apart : (s s' : Sign) (at : ℕ) → (class_of_sign s ≡ class_of_sign s' → ⊥) → stands text tokens at s ≡ true → stands text tokens at s' ≡ true → ⊥
  apart s s' at other e f = other (sym (sign_class s at e) ∙ sign_class s' at f)

  name_at_class : (at : ℕ) (name : List ℕ) → spelled_name_at text tokens at ≡ Some name → class_at at ≡ 1
  unfolding spelled_name_at
  name_at_class at name e = name_class text name (slice_get tokens at) e

  pub named_class : (at : ℕ) (found : Option (List ℕ)) → spelled_name_at text tokens at ≡ found → is_some found ≡ true → class_at at ≡ 1
  named_class at (Some name) is e = name_at_class at name is
  named_class at None is e = absurd (cc e)

  pub end_class : (at : ℕ) → (at == length tokens) ≡ true → class_at at ≡ 0
  end_class at e = let same : at ≡ length tokens = grind (arith, nat_tests) in let past : slice_get tokens at ≡ None = slice_get_past tokens at (omega (arith, same)) in rw past refl

  -- all that is left open of a file from a place on
  pub record Stands (symbols : Form) (at : ℕ) : Type 0 where
    pub on : (to : ℕ) → at < to → IsViable text tokens to → Goes text tokens symbols at to
    pub back : (to : ℕ) → Goes text tokens symbols at to → IsViable text tokens to

  pub begins : Stands (FEATURES ∷ Names ∷ ModelLine ∷ Entries ∷ []) 0
  begins = record { on = λ to later m. m; back = λ to m. m }

  pub moved : (symbols : Form) (at at' : ℕ) → at ≡ at' → Stands symbols at → Stands symbols at'
  moved symbols at at' e s = subst (λ place. Stands symbols place) e s

  pub reached : (symbols : Form) (at : ℕ) → Stands symbols at → IsViable text tokens at
  reached symbols at s = s.back at (here grammar token_fits symbols at)

  pub pass : (k : ℕ) (symbols : Form) (at : ℕ) → fitting text tokens k at ≡ true → Stands (Terminal (Foreign k) ∷ symbols) at → Stands symbols (at + 1)
  pass k symbols at fit s = record {
    on = λ to later v. (close_sign grammar token_fits (Foreign k) symbols at to (omega (arith, later)) (s.on to (omega (arith, later)) v)).1;
    back = λ to m. s.back to (open_sign grammar token_fits (Foreign k) symbols at to fit m);
  }

  pub never : (k : ℕ) (symbols : Form) (at : ℕ) → (fitting text tokens k at ≡ true → ⊥) → (to : ℕ) → at < to → Goes text tokens (Terminal (Foreign k) ∷ symbols) at to → ⊥
  never k symbols at other to later m = other (close_sign grammar token_fits (Foreign k) symbols at to later m).0

  pub stops : (k : ℕ) (symbols : Form) (at : ℕ) → fitting text tokens k at ≡ false → Stands (Terminal (Foreign k) ∷ symbols) at → IsFirstFileFault text tokens at
  stops k symbols at other s = record {
    before = reached (Terminal (Foreign k) ∷ symbols) at s;
    never = λ to later v. never k symbols at (λ e. cc (e, other)) to later (s.on to later v);
  }

  -- none of these forms goes on from a place
  abbrev pub NoneGoes : Form → ℕ → List Form → Type 0
  NoneGoes symbols at [] = Unit {0}
  NoneGoes symbols at (form ∷ others) = ((to : ℕ) → at < to → Goes text tokens (form ++ symbols) at to → ⊥) × NoneGoes symbols at others

  pub none_of : (symbols : Form) (at to : ℕ) (others : List Form) → at < to → NoneGoes symbols at others → AnyOf (λ form. Goes text tokens (form ++ symbols) at to) others → ⊥
  none_of symbols at to [] later none any = any
  none_of symbols at to (form ∷ others) later none (inl m) = none.0 to later m
  none_of symbols at to (form ∷ others) later none (inr any) = none_of symbols at to others later none.1 any

  this_of : (symbols : Form) (at to : ℕ) (before : List Form) (form : Form) (after : List Form) → at < to → NoneGoes symbols at before → NoneGoes symbols at after → AnyOf (λ f. Goes text tokens (f ++ symbols) at to) (before ++ form ∷ after) → Goes text tokens (form ++ symbols) at to
  this_of symbols at to [] form after later none none' (inl m) = m
  this_of symbols at to [] form after later none none' (inr any) = absurd (none_of symbols at to after later none' any)
  this_of symbols at to (other ∷ before) form after later none none' (inl m) = absurd (none.0 to later m)
  this_of symbols at to (other ∷ before) form after later none none' (inr any) = this_of symbols at to before form after later none.1 none' any

  in_any : (symbols : Form) (at to : ℕ) (before : List Form) (form : Form) (after : List Form) → Goes text tokens (form ++ symbols) at to → AnyOf (λ f. Goes text tokens (f ++ symbols) at to) (before ++ form ∷ after)
  in_any symbols at to [] form after m = inl m
  in_any symbols at to (other ∷ before) form after m = inr (in_any symbols at to before form after m)

  -- the one form of a part that goes on
  pub chosen : (p : ℕ) (before : List Form) (form : Form) (after : List Form) (symbols : Form) (at : ℕ) → outer p 0 ≡ before ++ form ∷ after → NoneGoes symbols at before → NoneGoes symbols at after → Stands (Nonterminal (Outer p 0) ∷ symbols) at → Stands (form ++ symbols) at
  chosen p before form after symbols at is none none' s = record {
    on = λ to later v. this_of symbols at to before form after later none none' (rw is at (close_part grammar token_fits (Outer p 0) symbols at to later (s.on to later v)));
    back = λ to m. s.back to (open_part grammar token_fits (Outer p 0) symbols at to (rw is (in_any symbols at to before form after m)));
  }

  pub no_form : (p : ℕ) (all : List Form) (symbols : Form) (at : ℕ) → outer p 0 ≡ all → NoneGoes symbols at all → Stands (Nonterminal (Outer p 0) ∷ symbols) at → IsFirstFileFault text tokens at
  no_form p all symbols at is none s = record {
    before = reached (Nonterminal (Outer p 0) ∷ symbols) at s;
    never = λ to later v. none_of symbols at to all later none (rw is at (close_part grammar token_fits (Outer p 0) symbols at to later (s.on to later v)));
  }

  or_mark_at : (bytes : List ℕ) (p q : Bool) → bytes_eq bytes (codes "(") ≡ p → bytes_eq bytes (codes ")") ≡ q → sign_of_mark bytes ≡ sign_of_word (codes "or") → ⊥
  or_mark_at bytes true q is is' e = cc (rw is at e)
  or_mark_at bytes false true is is' e = cc (rw (is, is') at e)
  or_mark_at bytes false false is is' e = cc (rw (is, is') at e)

  or_kind : (k : TokenKind) (bytes : List ℕ) → sign_of_kind k bytes ≡ sign_of_word (codes "or") → class_of_kind k ≡ 1
  or_kind token_kind.Word bytes e = refl
  or_kind (token_kind.Integer n) bytes e = absurd (cc e)
  or_kind (token_kind.Text t) bytes e = absurd (cc e)
  or_kind (token_kind.Param n) bytes e = absurd (cc e)
  or_kind token_kind.Sign bytes e = absurd (or_mark_at bytes (bytes_eq bytes (codes "(")) (bytes_eq bytes (codes ")")) refl refl e)
  or_kind token_kind.Bad bytes e = absurd (cc e)

  or_end : (at : ℕ) (b : Bool) → (at == length tokens) ≡ b → sign_of_token text tokens at None ≡ sign_of_word (codes "or") → ⊥
  or_end at true is e = cc (rw is at e)
  or_end at false is e = cc (rw is at e)

  or_token : (at : ℕ) (token : Option Token) → sign_of_token text tokens at token ≡ sign_of_word (codes "or") → class_of token ≡ 1
  or_token at (Some token) e = or_kind token.kind (bytes_of text token) e
  or_token at None e = absurd (or_end at (at == length tokens) refl e)

  or_class : (at : ℕ) → sign_at text tokens at ≡ sign_of_word (codes "or") → class_at at ≡ 1
  unfolding sign_at
  or_class at e = or_token at (slice_get tokens at) e

  and_mark_at : (bytes : List ℕ) (p q : Bool) → bytes_eq bytes (codes "(") ≡ p → bytes_eq bytes (codes ")") ≡ q → sign_of_mark bytes ≡ sign_of_word (codes "and") → ⊥
  and_mark_at bytes true q is is' e = cc (rw is at e)
  and_mark_at bytes false true is is' e = cc (rw (is, is') at e)
  and_mark_at bytes false false is is' e = cc (rw (is, is') at e)

  and_kind : (k : TokenKind) (bytes : List ℕ) → sign_of_kind k bytes ≡ sign_of_word (codes "and") → class_of_kind k ≡ 1
  and_kind token_kind.Word bytes e = refl
  and_kind (token_kind.Integer n) bytes e = absurd (cc e)
  and_kind (token_kind.Text t) bytes e = absurd (cc e)
  and_kind (token_kind.Param n) bytes e = absurd (cc e)
  and_kind token_kind.Sign bytes e = absurd (and_mark_at bytes (bytes_eq bytes (codes "(")) (bytes_eq bytes (codes ")")) refl refl e)
  and_kind token_kind.Bad bytes e = absurd (cc e)

  and_end : (at : ℕ) (b : Bool) → (at == length tokens) ≡ b → sign_of_token text tokens at None ≡ sign_of_word (codes "and") → ⊥
  and_end at true is e = cc (rw is at e)
  and_end at false is e = cc (rw is at e)

  and_token : (at : ℕ) (token : Option Token) → sign_of_token text tokens at token ≡ sign_of_word (codes "and") → class_of token ≡ 1
  and_token at (Some token) e = and_kind token.kind (bytes_of text token) e
  and_token at None e = absurd (and_end at (at == length tokens) refl e)

  and_class : (at : ℕ) → sign_at text tokens at ≡ sign_of_word (codes "and") → class_at at ≡ 1
  unfolding sign_at
  and_class at e = and_token at (slice_get tokens at) e

  -- what never begins with a word doesn't go on an expression
  pub free_of : (nesting : ℕ) (symbols : Form) → ((at to : ℕ) → at < to → class_at at ≡ 1 → Goes text tokens symbols at to → ⊥) → IsFree grammar token_fits (signs_of (Disjunction nesting)) symbols
  free_of nesting symbols none = (λ at to fit order m. none at to order (or_class at fit) m, (λ at to fit order m. none at to order (and_class at fit) m, tt))

  -- a sign that stands for itself, with another class than words
  pub mark_free : (nesting k : ℕ) (symbols : Form) → ((at : ℕ) → fitting text tokens k at ≡ true → class_at at ≡ 2) → IsFree grammar token_fits (signs_of (Disjunction nesting)) (Terminal (Foreign k) ∷ symbols)
  mark_free nesting k symbols marks = free_of nesting (Terminal (Foreign k) ∷ symbols) (λ at to order word m. let two = marks at (close_sign grammar token_fits (Foreign k) symbols at to order m).0 in absurd (omega (arith, two, word)))

  -- behind an expression
  pub expression_ends : (names : List (List ℕ)) (nesting at end : ℕ) (expr : Expr) (symbols : Form) → IsExpression names text tokens nesting at expr end → IsFree grammar token_fits (signs_of (Disjunction nesting)) symbols → Stands (Expression nesting ∷ symbols) at → Stands symbols end
  expression_ends names nesting at end expr symbols is free s =
      let l = is.read outer (fitting text tokens) nesting_limit (omega arith) in
      record {
        on = λ to later v. l.on symbols to free later (s.on to (omega (arith, l.order, later)) v);
        back = λ to m. s.back to (l.back symbols to m);
      }

  fault_in : (nesting at place : ℕ) (symbols : Form) → IsFree grammar token_fits (signs_of (Disjunction nesting)) symbols → FaultAt grammar token_fits (signs_of (Disjunction nesting)) (Disjunction nesting) at place → Stands (Expression nesting ∷ symbols) at → IsFirstFileFault text tokens place
  fault_in nesting at place symbols free f s = record {
    before = s.back place (f.reaches.viable symbols);
    never = λ to later v. f.never symbols to free later (s.on to (omega (arith, f.reaches.order, later)) v);
  }

  pub expression_refused : (names : List (List ℕ)) (nesting at : ℕ) (inner : Fault) (symbols : Form) → IsRefused names text tokens nesting_limit (Disjunction nesting) at inner → IsFree grammar token_fits (signs_of (Disjunction nesting)) symbols → Stands (Expression nesting ∷ symbols) at → IsViableFault text tokens (fault_of inner)
  expression_refused names nesting at (expr_fault.Syntax place) symbols r free s = fault_in nesting at place symbols free (r outer (fitting text tokens) nesting_limit (omega arith)) s
  expression_refused names nesting at (expr_fault.TooDeep place) symbols r free s = fault_in nesting at place symbols free (r.0 outer (fitting text tokens)) s
  expression_refused names nesting at (expr_fault.UnknownFeature place) symbols r free s = s.back (place + 1) ((r.0 outer (fitting text tokens)).viable symbols)
  expression_refused names nesting at expr_fault.Memory symbols r free s = tt
