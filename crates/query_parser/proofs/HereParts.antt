-- Words, marks and choices that stand in a printed text.
use Rattle.std.proofs.Common.{◌≡◌, ◌≢◌, ◌==◌, ℕ, ◌+◌, ◌<◌, List, [], ◌∷◌, ◌++◌, None, true, false, codes, refl, subst, arith}
use Rattle.feature_expr.specs.ExprGrammar.{sign_at, sign_of_word}
use Rattle.word_tokens.specs.Words.{is_word_of}
use Rattle.feature_expr.specs.Names.{refusal}
use Rattle.feature_expr.specs.Printing as exprs
use Rattle.feature_expr.specs.declared.expr.Expr.{Expr}
use Rattle.word_tokens.specs.declared.token.Token.{Token}
use Rattle.word_tokens.specs.declared.token.TokenKind.TheVariants as kind
use Rattle.word_tokens.proofs.StandLaws.{EndsWord}
use Rattle.vra_syntax.specs.declared.cond.Op.{Op}
use Rattle.vra_syntax.specs.declared.cond.Op.TheVariants as op
use Rattle.query_parser.proofs.ClauseLaws.{choice_is}
use Rattle.query_parser.proofs.HereLaws.{Ends, is_plain_mark, lexeme_here, mark_here, expression_here}
use Rattle.query_parser.proofs.Heres.{Here, word_here, space_here}
use Rattle.query_parser.proofs.Printables.{PlainExpr}
use Rattle.query_parser.proofs.SignLaws.{or_takes, and_takes}
use Rattle.query_parser.specs.Lexemes.{number_of, lexeme_of_word, lexeme_of_mark, lexeme_at}
use Rattle.query_parser.specs.Parts.{IsChoice}
use Rattle.query_printer.specs.Printing.{op_text}
use Rattle.query_parser.specs.declared.lexeme.Lexeme.{Lexeme}
use Rattle.query_parser.specs.declared.lexeme.Lexeme.TheVariants as lexeme
use Rattle.feature_expr.specs.Nesting.{nesting_limit}

-- a token isn't this one
abbrev pub Isnt : Lexeme → Lexeme → Type 0
Isnt l wanted = (number_of l == number_of wanted) ≡ false

pub op_ends : (op : Op) (post : List ℕ) → Ends (op_text op ++ post)
op_ends op.Eq post = (refl, refl)
op_ends op.Ne post = (refl, refl)
op_ends op.Lt post = (refl, refl)
op_ends op.Le post = (refl, refl)
op_ends op.Gt post = (refl, refl)
op_ends op.Ge post = (refl, refl)

module _ (text : List ℕ) (tokens : List Token) where
  -- the same text, written otherwise
  pub reads_as : (k : ℕ) (t t' : List ℕ) → t ≡ t' → Here text tokens k t → Here text tokens k t'
  reads_as k t t' is h = subst (λ (x : List ℕ). Here text tokens k x) is h

  pub mark : (k x : ℕ) (post : List ℕ) → is_plain_mark x ≡ true → Here text tokens k (x ∷ post) → (lexeme_at text tokens k ≡ lexeme_of_mark (x ∷ [])) × Here text tokens (k + 1) post
  mark k x post plain h = let m = mark_here text tokens k x post plain h in (lexeme_here text tokens k kind.Sign (x ∷ []) m.0, m.1)

  pub word : (k : ℕ) (w post : List ℕ) → is_word_of w ≡ true → EndsWord post → Here text tokens k (w ++ post) → (lexeme_at text tokens k ≡ lexeme_of_word w) × Here text tokens (k + 1) post
  word k w post good ends h = let m = word_here text tokens k w post good ends h in (lexeme_here text tokens k kind.Word w m.0, m.1)

  -- a word and the space behind it
  pub word_before : (k : ℕ) (w post : List ℕ) → is_word_of w ≡ true → Here text tokens k (w ++ (32 ∷ post)) → (lexeme_at text tokens k ≡ lexeme_of_word w) × Here text tokens (k + 1) post
  word_before k w post good h = let m = word k w (32 ∷ post) good refl h in (m.0, space_here text tokens (k + 1) post m.1)

  -- a word with its spaces
  pub between : (k : ℕ) (w post : List ℕ) → is_word_of w ≡ true → Here text tokens k (32 ∷ (w ++ (32 ∷ post))) → (lexeme_at text tokens k ≡ lexeme_of_word w) × Here text tokens (k + 1) post
  between k w post good h = word_before k w post good (space_here text tokens k (w ++ (32 ∷ post)) h)

  -- a mark and the space behind it
  pub mark_before : (k x : ℕ) (post : List ℕ) → is_plain_mark x ≡ true → Here text tokens k (x ∷ 32 ∷ post) → (lexeme_at text tokens k ≡ lexeme_of_mark (x ∷ [])) × Here text tokens (k + 1) post
  mark_before k x post plain h = let m = mark k x (32 ∷ post) plain h in (m.0, space_here text tokens (k + 1) post m.1)

  pub not_or : (k : ℕ) → Isnt (lexeme_at text tokens k) lexeme.Or → sign_at text tokens k ≢ sign_of_word (codes "or")
  not_or k other e = let is = or_takes text tokens k e in cc (is, other)

  pub not_and : (k : ℕ) → Isnt (lexeme_at text tokens k) lexeme.And → sign_at text tokens k ≢ sign_of_word (codes "and")
  not_and k other e = let is = and_takes text tokens k e in cc (is, other)

  -- a choice up to its sides
  pub record ChoiceHere (names : List (List ℕ)) (n k : ℕ) (expr : Expr) (post : List ℕ) : Type 0 where
    pub sides : ℕ
    pub is : IsChoice names text tokens n k expr sides
    pub here : Here text tokens sides post

  pub choice_here : (names : List (List ℕ)) → refusal names ≡ None → (n : ℕ) (expr : Expr) (k : ℕ) (post : List ℕ) → n + 1 < nesting_limit → PlainExpr names (n + 1) expr → Here text tokens k (codes "choice" ++ (32 ∷ 91 ∷ (exprs.text_of names expr ++ (93 ∷ 32 ∷ 40 ∷ post)))) → ChoiceHere names n k expr post
  choice_here names none n expr k post within plain h =
      let c = word_before k (codes "choice") (91 ∷ (exprs.text_of names expr ++ (93 ∷ 32 ∷ 40 ∷ post))) refl h in
      let s = mark (k + 1) 91 (exprs.text_of names expr ++ (93 ∷ 32 ∷ 40 ∷ post)) refl c.1 in
      let x = expression_here text tokens names none (n + 1) expr (k + 1 + 1) (93 ∷ 32 ∷ 40 ∷ post) plain refl s.1 in
      let e = mark_before x.end 93 (40 ∷ post) refl x.here in
      let o = mark (x.end + 1) 40 post refl e.1 in
      let chosen = x.spelled (not_or x.end (rw e.0 refl)) (not_and x.end (rw e.0 refl)) in
      let below : n < nesting_limit = omega (arith, within) in
      record {
        sides = x.end + 1 + 1;
        is = choice_is names text tokens n k (n + 1) (k + 1 + 1) refl refl (rw c.0 refl) below (rw s.0 refl) expr x.end chosen (x.end + 1) (rw e.0 refl) refl (x.end + 1 + 1) refl (rw o.0 refl) within;
        here = o.1;
      }
