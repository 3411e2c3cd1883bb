-- Which signs of the grammar the tokens are that parts of a text were read from.
use Rattle.std.proofs.lemmas.Bool.Decides.{nat_tests}
use Rattle.std.proofs.Common.{arith, Bool, true, false, ◌≡◌, ◌∙◌, sym, ◌==◌, if◌then◌else◌, ℕ, List, length, map, Option, Some, None, Ok, Err, ◌⊎◌, inl, inr, slice_get, is_some, codes, refl}
use Rattle.std.specs.Char.{to_ascii_lowercase}
use Rattle.std.specs.Str.{bytes_eq}
use Rattle.std.proofs.lemmas.Slice.Eq.{bytes_eq-Decides}
use Rattle.word_tokens.specs.Words.{is_name_of, same_word_as}
use Rattle.word_tokens.specs.Tokens.{bytes_of}
use Rattle.feature_expr.specs.ExprGrammar.{sign_of_word, sign_of_mark, sign_of_kind, sign_of_token, sign_at}
use Rattle.word_tokens.specs.declared.token.Token.{Token}
use Rattle.word_tokens.specs.declared.token.TokenKind.{TokenKind}
use Rattle.word_tokens.specs.declared.token.TokenKind.TheVariants as kind
use Rattle.vra_syntax.specs.declared.cond.Op.{Op}
use Rattle.vra_syntax.specs.declared.cond.Operand.{Operand}
use Rattle.vra_syntax.specs.declared.cond.Operand.TheVariants as operand
use Rattle.values.specs.declared.value.Value.TheVariants as value
use Rattle.query_parser.specs.Lexemes.{number_of, lexeme_of_name, lexeme_of_inner, lexeme_of_reserved, lexeme_of_word, is_unequal, lexeme_of_comparison, lexeme_of_mark, lexeme_of_kind, lexeme_of_token, lexeme_at, is_name, folded_of, name_at, op_of, op_at, truth_of, value_of_kind, value_of, value_at}
use Rattle.query_parser.specs.StatementGrammar.{takes}
use Rattle.query_parser.specs.declared.fault.ParseFault.{ParseFault}
use Rattle.query_parser.specs.declared.fault.ParseFault.TheVariants as fault
use Rattle.query_parser.specs.declared.lexeme.Lexeme.{Lexeme}
use Rattle.query_parser.specs.declared.lexeme.Lexeme.TheVariants as lexeme

-- a word isn't two that differ
two_words : (word one other : List ℕ) → bytes_eq (map to_ascii_lowercase one) (map to_ascii_lowercase other) ≡ false → same_word_as word one ≡ true → same_word_as word other ≡ true → ⊥
two_words word one other far is is' =
    let lower = map to_ascii_lowercase word in
    let e : lower ≡ map to_ascii_lowercase one = (bytes_eq-Decides lower (map to_ascii_lowercase one)).0 is in
    let f : lower ≡ map to_ascii_lowercase other = (bytes_eq-Decides lower (map to_ascii_lowercase other)).0 is' in
    let same = (bytes_eq-Decides (map to_ascii_lowercase one) (map to_ascii_lowercase other)).1 (sym e ∙ f) in
    cc (same, far)

-- the word `or` is nothing else to expressions
or_word_by : (word : List ℕ) (o a n t f name : Bool) → same_word_as word (codes "or") ≡ o → same_word_as word (codes "and") ≡ a → same_word_as word (codes "not") ≡ n → same_word_as word (codes "true") ≡ t → same_word_as word (codes "false") ≡ f → is_name_of word ≡ name → sign_of_word word ≡ sign_of_word (codes "or") → number_of (lexeme_of_word word) ≡ 0
or_word_by word true a n t f name p q r s u v e = rw p refl
or_word_by word false true n t f name p q r s u v e = absurd (cc (rw (p, q) at e))
or_word_by word false false true t f name p q r s u v e = absurd (cc (rw (p, q, r) at e))
or_word_by word false false false true f name p q r s u v e = absurd (cc (rw (p, q, r, s) at e))
or_word_by word false false false false true name p q r s u v e = absurd (cc (rw (p, q, r, s, u) at e))
or_word_by word false false false false false true p q r s u v e = absurd (cc (rw (v, p, q, r, s, u) at e))
or_word_by word false false false false false false p q r s u v e = absurd (cc (rw (v, p, q, r, s, u) at e))

and_word_by : (word : List ℕ) (o a n t f name : Bool) → same_word_as word (codes "or") ≡ o → same_word_as word (codes "and") ≡ a → same_word_as word (codes "not") ≡ n → same_word_as word (codes "true") ≡ t → same_word_as word (codes "false") ≡ f → is_name_of word ≡ name → sign_of_word word ≡ sign_of_word (codes "and") → number_of (lexeme_of_word word) ≡ 1
and_word_by word true a n t f name p q r s u v e = absurd (cc (rw p at e))
and_word_by word false true n t f name p q r s u v e = rw (p, q) refl
and_word_by word false false true t f name p q r s u v e = absurd (cc (rw (p, q, r) at e))
and_word_by word false false false true f name p q r s u v e = absurd (cc (rw (p, q, r, s) at e))
and_word_by word false false false false true name p q r s u v e = absurd (cc (rw (p, q, r, s, u) at e))
and_word_by word false false false false false true p q r s u v e = absurd (cc (rw (v, p, q, r, s, u) at e))
and_word_by word false false false false false false p q r s u v e = absurd (cc (rw (v, p, q, r, s, u) at e))

mark_isnt : (bytes word : List ℕ) (p q : Bool) → bytes_eq bytes (codes "(") ≡ p → bytes_eq bytes (codes ")") ≡ q → (sign_of_mark (codes "(") ≡ sign_of_word word → ⊥) → (sign_of_mark (codes ")") ≡ sign_of_word word → ⊥) → (sign_of_mark (codes "*") ≡ sign_of_word word → ⊥) → sign_of_mark bytes ≡ sign_of_word word → ⊥
mark_isnt bytes word true q is is' a b c e = a (rw is at e)
mark_isnt bytes word false true is is' a b c e = b (rw (is, is') at e)
mark_isnt bytes word false false is is' a b c e = c (rw (is, is') at e)

module _ (text : List ℕ) (tokens : List Token) where
  or_kind : (k : TokenKind) (bytes : List ℕ) → sign_of_kind k bytes ≡ sign_of_word (codes "or") → number_of (lexeme_of_kind k bytes) ≡ 0
  or_kind kind.Word bytes e = or_word_by bytes (same_word_as bytes (codes "or")) (same_word_as bytes (codes "and")) (same_word_as bytes (codes "not")) (same_word_as bytes (codes "true")) (same_word_as bytes (codes "false")) (is_name_of bytes) refl refl refl refl refl refl e
  or_kind (kind.Integer n) bytes e = absurd (cc e)
  or_kind (kind.Text t) bytes e = absurd (cc e)
  or_kind (kind.Param n) bytes e = absurd (cc e)
  or_kind kind.Sign bytes e = absurd (mark_isnt bytes (codes "or") (bytes_eq bytes (codes "(")) (bytes_eq bytes (codes ")")) refl refl (λ x. cc x) (λ x. cc x) (λ x. cc x) e)
  or_kind kind.Bad bytes e = absurd (cc e)

  and_kind : (k : TokenKind) (bytes : List ℕ) → sign_of_kind k bytes ≡ sign_of_word (codes "and") → number_of (lexeme_of_kind k bytes) ≡ 1
  and_kind kind.Word bytes e = and_word_by bytes (same_word_as bytes (codes "or")) (same_word_as bytes (codes "and")) (same_word_as bytes (codes "not")) (same_word_as bytes (codes "true")) (same_word_as bytes (codes "false")) (is_name_of bytes) refl refl refl refl refl refl e
  and_kind (kind.Integer n) bytes e = absurd (cc e)
  and_kind (kind.Text t) bytes e = absurd (cc e)
  and_kind (kind.Param n) bytes e = absurd (cc e)
  and_kind kind.Sign bytes e = absurd (mark_isnt bytes (codes "and") (bytes_eq bytes (codes "(")) (bytes_eq bytes (codes ")")) refl refl (λ x. cc x) (λ x. cc x) (λ x. cc x) e)
  and_kind kind.Bad bytes e = absurd (cc e)

  or_end : (at : ℕ) (b : Bool) → (at == length tokens) ≡ b → sign_of_token text tokens at None ≡ sign_of_word (codes "or") → ⊥
  or_end at true is e = cc (rw is at e)
  or_end at false is e = cc (rw is at e)

  and_end : (at : ℕ) (b : Bool) → (at == length tokens) ≡ b → sign_of_token text tokens at None ≡ sign_of_word (codes "and") → ⊥
  and_end at true is e = cc (rw is at e)
  and_end at false is e = cc (rw is at e)

  is_number : (l : Lexeme) (n : ℕ) → number_of l ≡ n → (number_of l == n) ≡ true
  is_number l n e = rw e (same_number n)
    where
      same_number : (k : ℕ) → (k == k) ≡ true
      same_number k = grind (arith, nat_tests)

  or_token : (at : ℕ) (token : Option Token) → sign_of_token text tokens at token ≡ sign_of_word (codes "or") → number_of (lexeme_of_token text tokens at token) ≡ 0
  or_token at (Some token) e = or_kind token.kind (bytes_of text token) e
  or_token at None e = absurd (or_end at (at == length tokens) refl e)

  and_token : (at : ℕ) (token : Option Token) → sign_of_token text tokens at token ≡ sign_of_word (codes "and") → number_of (lexeme_of_token text tokens at token) ≡ 1
  and_token at (Some token) e = and_kind token.kind (bytes_of text token) e
  and_token at None e = absurd (and_end at (at == length tokens) refl e)

  -- what goes on an expression is the word `or` or the word `and`
  pub or_takes : (at : ℕ) → sign_at text tokens at ≡ sign_of_word (codes "or") → takes 0 (lexeme_at text tokens at) ≡ true
  unfolding sign_at lexeme_at
  or_takes at e = is_number (lexeme_at text tokens at) 0 (or_token at (slice_get tokens at) e)

  pub and_takes : (at : ℕ) → sign_at text tokens at ≡ sign_of_word (codes "and") → takes 1 (lexeme_at text tokens at) ≡ true
  unfolding sign_at lexeme_at
  and_takes at e = is_number (lexeme_at text tokens at) 1 (and_token at (slice_get tokens at) e)

  named_by : (at : ℕ) (token : Option Token) (name : List ℕ) (is : Bool) → is_name (lexeme_of_token text tokens at token) ≡ is → folded_of is text token ≡ Some name → is_name (lexeme_of_token text tokens at token) ≡ true
  named_by at token name true is e = is
  named_by at token name false is e = absurd (cc e)

  -- a name is one of the grammar
  pub name_takes : (at : ℕ) (name : List ℕ) → name_at text tokens at ≡ Some name → takes 100 (lexeme_at text tokens at) ≡ true
  unfolding name_at lexeme_at
  name_takes at name e = named_by at (slice_get tokens at) name (is_name (lexeme_of_token text tokens at (slice_get tokens at))) refl e

  end_unnamed : (at : ℕ) (b : Bool) → (at == length tokens) ≡ b → is_name (lexeme_of_token text tokens at None) ≡ false
  end_unnamed at true is = rw is refl
  end_unnamed at false is = rw is refl

  unnamed_by : (at : ℕ) (token : Option Token) (is : Bool) → is_name (lexeme_of_token text tokens at token) ≡ is → folded_of is text token ≡ None → is_name (lexeme_of_token text tokens at token) ≡ false
  unnamed_by at (Some token) true is e = absurd (cc e)
  unnamed_by at None true is e = end_unnamed at (at == length tokens) refl
  unnamed_by at token false is e = is

  pub no_name_takes : (at : ℕ) → name_at text tokens at ≡ None → takes 100 (lexeme_at text tokens at) ≡ false
  unfolding name_at lexeme_at
  no_name_takes at e = unnamed_by at (slice_get tokens at) (is_name (lexeme_of_token text tokens at (slice_get tokens at))) refl e

  is_some_of : (found : Option Op) (op : Op) → found ≡ Some op → is_some found ≡ true
  is_some_of found op e = rw e refl

  isnt_some_of : (found : Option Op) → found ≡ None → is_some found ≡ false
  isnt_some_of found e = rw e refl

  pub op_takes : (at : ℕ) (op : Op) → op_at text tokens at ≡ Some op → takes 102 (lexeme_at text tokens at) ≡ true
  op_takes at op e = is_some_of (op_of (lexeme_at text tokens at)) op e

  pub no_op_takes : (at : ℕ) → op_at text tokens at ≡ None → takes 102 (lexeme_at text tokens at) ≡ false
  no_op_takes at e = isnt_some_of (op_of (lexeme_at text tokens at)) e

  -- the signs of values: an integer, a text, a parameter, `true` and `false`
  abbrev pub IsValue : Lexeme → Type 0
  IsValue l = (takes 30 l ≡ true) ⊎ ((takes 31 l ≡ true) ⊎ ((takes 32 l ≡ true) ⊎ ((takes 3 l ≡ true) ⊎ (takes 4 l ≡ true))))

  abbrev pub IsNoValue : Lexeme → Type 0
  IsNoValue l = (takes 30 l ≡ false) × (takes 31 l ≡ false) × (takes 32 l ≡ false) × (takes 3 l ≡ false) × (takes 4 l ≡ false)

  -- why a token isn't a value
  pub data ValueFault (l : Lexeme) (at : ℕ) : ParseFault → Type 0 where
    not_a_value : IsNoValue l → ValueFault l at (fault.Syntax at)
    too_large : takes 30 l ≡ true → ValueFault l at (fault.IntTooLarge at)
    too_many : takes 32 l ≡ true → ValueFault l at (fault.TooManyParams at)
    none_taken : takes 32 l ≡ true → ValueFault l at (fault.NoParam at)

  true_by : (word : List ℕ) (o a n : Bool) → same_word_as word (codes "or") ≡ o → same_word_as word (codes "and") ≡ a → same_word_as word (codes "not") ≡ n → same_word_as word (codes "true") ≡ true → number_of (lexeme_of_word word) ≡ 3
  true_by word true a n p q r e = absurd (two_words word (codes "or") (codes "true") refl p e)
  true_by word false true n p q r e = absurd (two_words word (codes "and") (codes "true") refl q e)
  true_by word false false true p q r e = absurd (two_words word (codes "not") (codes "true") refl r e)
  true_by word false false false p q r e = rw (p, q, r, e) refl

  false_by : (word : List ℕ) (o a n t : Bool) → same_word_as word (codes "or") ≡ o → same_word_as word (codes "and") ≡ a → same_word_as word (codes "not") ≡ n → same_word_as word (codes "true") ≡ t → same_word_as word (codes "false") ≡ true → number_of (lexeme_of_word word) ≡ 4
  false_by word true a n t p q r s e = absurd (two_words word (codes "or") (codes "false") refl p e)
  false_by word false true n t p q r s e = absurd (two_words word (codes "and") (codes "false") refl q e)
  false_by word false false true t p q r s e = absurd (two_words word (codes "not") (codes "false") refl r e)
  false_by word false false false true p q r s e = absurd (two_words word (codes "true") (codes "false") refl s e)
  false_by word false false false false p q r s e = rw (p, q, r, s, e) refl

  name_no_value : (word : List ℕ) (a b c : Bool) → same_word_as word (codes "transaction") ≡ a → same_word_as word (codes "work") ≡ b → same_word_as word (codes "to") ≡ c → IsNoValue (lexeme_of_name word)
  name_no_value word true b c p q r = rw p (refl, refl, refl, refl, refl)
  name_no_value word false true c p q r = rw (p, q) (refl, refl, refl, refl, refl)
  name_no_value word false false true p q r = rw (p, q, r) (refl, refl, refl, refl, refl)
  name_no_value word false false false p q r = rw (p, q, r) (refl, refl, refl, refl, refl)

  choice_no_value : (b : Bool) (l other : Lexeme) → IsNoValue l → IsNoValue other → IsNoValue (if b then l else other)
  choice_no_value true l other none none' = none
  choice_no_value false l other none none' = none'

  not_taken : (b : Bool) (l other : Lexeme) → b ≡ false → IsNoValue other → IsNoValue (if b then l else other)
  not_taken true l other e none = absurd (cc e)
  not_taken false l other e none = none

  inner_no_value : (word : List ℕ) → IsNoValue (lexeme_of_inner word)
  inner_no_value word =
      choice_no_value (same_word_as word (codes "as")) lexeme.As _ (refl, refl, refl, refl, refl)
      (choice_no_value (same_word_as word (codes "except")) lexeme.Except _ (refl, refl, refl, refl, refl)
      (choice_no_value (same_word_as word (codes "from")) lexeme.From _ (refl, refl, refl, refl, refl)
      (choice_no_value (same_word_as word (codes "into")) lexeme.Into _ (refl, refl, refl, refl, refl)
      (choice_no_value (same_word_as word (codes "join")) lexeme.Join _ (refl, refl, refl, refl, refl)
      (choice_no_value (same_word_as word (codes "on")) lexeme.On _ (refl, refl, refl, refl, refl)
      (choice_no_value (same_word_as word (codes "union")) lexeme.Union _ (refl, refl, refl, refl, refl)
      (choice_no_value (same_word_as word (codes "values")) lexeme.Values _ (refl, refl, refl, refl, refl)
      (choice_no_value (same_word_as word (codes "when")) lexeme.When _ (refl, refl, refl, refl, refl)
      (choice_no_value (same_word_as word (codes "where")) lexeme.Where lexeme.Word (refl, refl, refl, refl, refl) (refl, refl, refl, refl, refl))))))))))

  reserved_no_value : (word : List ℕ) → IsNoValue (lexeme_of_reserved word)
  reserved_no_value word =
      choice_no_value (same_word_as word (codes "begin")) lexeme.Begin _ (refl, refl, refl, refl, refl)
      (choice_no_value (same_word_as word (codes "commit")) lexeme.Commit _ (refl, refl, refl, refl, refl)
      (choice_no_value (same_word_as word (codes "rollback")) lexeme.Rollback _ (refl, refl, refl, refl, refl)
      (choice_no_value (same_word_as word (codes "set")) lexeme.Set _ (refl, refl, refl, refl, refl)
      (choice_no_value (same_word_as word (codes "insert")) lexeme.Insert _ (refl, refl, refl, refl, refl)
      (choice_no_value (same_word_as word (codes "delete")) lexeme.Delete _ (refl, refl, refl, refl, refl)
      (choice_no_value (same_word_as word (codes "update")) lexeme.Update _ (refl, refl, refl, refl, refl)
      (choice_no_value (same_word_as word (codes "select")) lexeme.Select _ (refl, refl, refl, refl, refl)
      (choice_no_value (same_word_as word (codes "empty")) lexeme.Empty _ (refl, refl, refl, refl, refl)
      (choice_no_value (same_word_as word (codes "choice")) lexeme.Choice _ (refl, refl, refl, refl, refl) (inner_no_value word))))))))))

  -- a word that is neither `true` nor `false` is no value
  word_no_value : (word : List ℕ) → same_word_as word (codes "true") ≡ false → same_word_as word (codes "false") ≡ false → IsNoValue (lexeme_of_word word)
  word_no_value word t f =
      choice_no_value (same_word_as word (codes "or")) lexeme.Or _ (refl, refl, refl, refl, refl)
      (choice_no_value (same_word_as word (codes "and")) lexeme.And _ (refl, refl, refl, refl, refl)
      (choice_no_value (same_word_as word (codes "not")) lexeme.Not _ (refl, refl, refl, refl, refl)
      (not_taken (same_word_as word (codes "true")) lexeme.True _ t
      (not_taken (same_word_as word (codes "false")) lexeme.False _ f
      (choice_no_value (is_name_of word) (lexeme_of_name word) (lexeme_of_reserved word) (name_no_value word (same_word_as word (codes "transaction")) (same_word_as word (codes "work")) (same_word_as word (codes "to")) refl refl refl) (reserved_no_value word))))))

  comparison_no_value : (mark : List ℕ) → IsNoValue (lexeme_of_comparison mark)
  comparison_no_value mark =
      choice_no_value (bytes_eq mark (codes "=")) lexeme.Equal _ (refl, refl, refl, refl, refl)
      (choice_no_value (is_unequal mark) lexeme.NotEqual _ (refl, refl, refl, refl, refl)
      (choice_no_value (bytes_eq mark (codes "<")) lexeme.Less _ (refl, refl, refl, refl, refl)
      (choice_no_value (bytes_eq mark (codes "<=")) lexeme.LessEqual _ (refl, refl, refl, refl, refl)
      (choice_no_value (bytes_eq mark (codes ">")) lexeme.Greater _ (refl, refl, refl, refl, refl)
      (choice_no_value (bytes_eq mark (codes ">=")) lexeme.GreaterEqual lexeme.Fault (refl, refl, refl, refl, refl) (refl, refl, refl, refl, refl))))))

  mark_no_value : (mark : List ℕ) → IsNoValue (lexeme_of_mark mark)
  mark_no_value mark =
      choice_no_value (bytes_eq mark (codes "(")) lexeme.Open _ (refl, refl, refl, refl, refl)
      (choice_no_value (bytes_eq mark (codes ")")) lexeme.Close _ (refl, refl, refl, refl, refl)
      (choice_no_value (bytes_eq mark (codes "[")) lexeme.OpenSquare _ (refl, refl, refl, refl, refl)
      (choice_no_value (bytes_eq mark (codes "]")) lexeme.CloseSquare _ (refl, refl, refl, refl, refl)
      (choice_no_value (bytes_eq mark (codes ",")) lexeme.Comma _ (refl, refl, refl, refl, refl)
      (choice_no_value (bytes_eq mark (codes ";")) lexeme.Semicolon _ (refl, refl, refl, refl, refl)
      (choice_no_value (bytes_eq mark (codes ".")) lexeme.Dot _ (refl, refl, refl, refl, refl)
      (choice_no_value (bytes_eq mark (codes "*")) lexeme.Star _ (refl, refl, refl, refl, refl) (comparison_no_value mark))))))))

  end_no_value : (at : ℕ) → IsNoValue (lexeme_of_token text tokens at None)
  end_no_value at = choice_no_value (at == length tokens) lexeme.End lexeme.Fault (refl, refl, refl, refl, refl) (refl, refl, refl, refl, refl)

  truth_takes : (at : ℕ) (word : List ℕ) (value : Operand) (t f : Bool) → same_word_as word (codes "true") ≡ t → same_word_as word (codes "false") ≡ f → truth_of at word ≡ Ok value → IsValue (lexeme_of_word word)
  truth_takes at word value true f p q e = inr (inr (inr (inl (is_number (lexeme_of_word word) 3 (true_by word (same_word_as word (codes "or")) (same_word_as word (codes "and")) (same_word_as word (codes "not")) refl refl refl p)))))
  truth_takes at word value false true p q e = inr (inr (inr (inr (is_number (lexeme_of_word word) 4 (false_by word (same_word_as word (codes "or")) (same_word_as word (codes "and")) (same_word_as word (codes "not")) (same_word_as word (codes "true")) refl refl refl refl q)))))
  truth_takes at word value false false p q e = absurd (cc (rw (p, q) at e))

  kind_takes : (with_params : Bool) (at : ℕ) (k : TokenKind) (bytes : List ℕ) (value : Operand) → value_of_kind with_params at k bytes ≡ Ok value → IsValue (lexeme_of_kind k bytes)
  kind_takes with_params at (kind.Integer n) bytes value e = inl refl
  kind_takes with_params at (kind.Text t) bytes value e = inr (inl refl)
  kind_takes with_params at (kind.Param n) bytes value e = inr (inr (inl refl))
  kind_takes with_params at kind.Word bytes value e = truth_takes at bytes value (same_word_as bytes (codes "true")) (same_word_as bytes (codes "false")) refl refl e
  kind_takes with_params at kind.Sign bytes value e = absurd (cc e)
  kind_takes with_params at kind.Bad bytes value e = absurd (cc e)

  token_takes : (with_params : Bool) (at : ℕ) (token : Option Token) (value : Operand) → value_of with_params text at token ≡ Ok value → IsValue (lexeme_of_token text tokens at token)
  token_takes with_params at (Some token) value e = kind_takes with_params at token.kind (bytes_of text token) value e
  token_takes with_params at None value e = absurd (cc e)

  -- a value is one of the grammar
  pub value_takes : (with_params : Bool) (at : ℕ) (value : Operand) → value_at with_params text tokens at ≡ Ok value → IsValue (lexeme_at text tokens at)
  unfolding value_at lexeme_at
  value_takes with_params at value e = token_takes with_params at (slice_get tokens at) value e

  fault_as : (l : Lexeme) (at : ℕ) (why why' : ParseFault) → why ≡ why' → ValueFault l at why' → ValueFault l at why
  fault_as l at why why' e f = rw e f

  truth_fault : (at : ℕ) (word : List ℕ) (why : ParseFault) (t f : Bool) → same_word_as word (codes "true") ≡ t → same_word_as word (codes "false") ≡ f → truth_of at word ≡ Err why → ValueFault (lexeme_of_word word) at why
  truth_fault at word why true f p q e = absurd (cc (rw p at e))
  truth_fault at word why false true p q e = absurd (cc (rw (p, q) at e))
  truth_fault at word why false false p q e = fault_as (lexeme_of_word word) at why (fault.Syntax at) (cc (rw (p, q) at e)) (not_a_value (word_no_value word p q))

  param_fault : (with_params : Bool) (at number : ℕ) (bytes : List ℕ) (why : ParseFault) → value_of_kind with_params at (kind.Param (Some number)) bytes ≡ Err why → ValueFault lexeme.Parameter at why
  param_fault true at number bytes why e = absurd (cc e)
  param_fault false at number bytes why e = fault_as lexeme.Parameter at why (fault.NoParam at) (cc e) (none_taken refl)

  kind_fault : (with_params : Bool) (at : ℕ) (k : TokenKind) (bytes : List ℕ) (why : ParseFault) → value_of_kind with_params at k bytes ≡ Err why → ValueFault (lexeme_of_kind k bytes) at why
  kind_fault with_params at (kind.Integer (Some n)) bytes why e = absurd (cc e)
  kind_fault with_params at (kind.Integer None) bytes why e = fault_as lexeme.Integer at why (fault.IntTooLarge at) (cc e) (too_large refl)
  kind_fault with_params at (kind.Text t) bytes why e = absurd (cc e)
  kind_fault with_params at (kind.Param (Some n)) bytes why e = param_fault with_params at n bytes why e
  kind_fault with_params at (kind.Param None) bytes why e = fault_as lexeme.Parameter at why (fault.TooManyParams at) (cc e) (too_many refl)
  kind_fault with_params at kind.Word bytes why e = truth_fault at bytes why (same_word_as bytes (codes "true")) (same_word_as bytes (codes "false")) refl refl e
  kind_fault with_params at kind.Sign bytes why e = fault_as (lexeme_of_mark bytes) at why (fault.Syntax at) (cc e) (not_a_value (mark_no_value bytes))
  kind_fault with_params at kind.Bad bytes why e = fault_as lexeme.Fault at why (fault.Syntax at) (cc e) (not_a_value (refl, refl, refl, refl, refl))

  token_fault : (with_params : Bool) (at : ℕ) (token : Option Token) (why : ParseFault) → value_of with_params text at token ≡ Err why → ValueFault (lexeme_of_token text tokens at token) at why
  token_fault with_params at (Some token) why e = kind_fault with_params at token.kind (bytes_of text token) why e
  token_fault with_params at None why e = fault_as (lexeme_of_token text tokens at None) at why (fault.Syntax at) (cc e) (not_a_value (end_no_value at))

  pub value_fault : (with_params : Bool) (at : ℕ) (why : ParseFault) → value_at with_params text tokens at ≡ Err why → ValueFault (lexeme_at text tokens at) at why
  unfolding value_at lexeme_at
  value_fault with_params at why e = token_fault with_params at (slice_get tokens at) why e

  -- `true` and `false` are the values that are truths
  bool_kind : (with_params : Bool) (at : ℕ) (k : TokenKind) (bytes : List ℕ) (truth : Bool) → value_of_kind with_params at k bytes ≡ Ok (operand.Literal (value.Bool truth)) → (takes 3 (lexeme_of_kind k bytes) ≡ true) ⊎ (takes 4 (lexeme_of_kind k bytes) ≡ true)
  bool_kind with_params at (kind.Integer (Some n)) bytes truth e = absurd (cc e)
  bool_kind with_params at (kind.Integer None) bytes truth e = absurd (cc e)
  bool_kind with_params at (kind.Text t) bytes truth e = absurd (cc e)
  bool_kind with_params at (kind.Param (Some n)) bytes truth e = absurd (param_no_truth with_params e)
    where
      param_no_truth : (b : Bool) → (if b then Ok (operand.Param n) else Err (fault.NoParam at)) ≡ Ok (operand.Literal (value.Bool truth)) → ⊥
      param_no_truth true e = cc e
      param_no_truth false e = cc e
  bool_kind with_params at (kind.Param None) bytes truth e = absurd (cc e)
  bool_kind with_params at kind.Word bytes truth e = by (same_word_as bytes (codes "true")) (same_word_as bytes (codes "false")) refl refl
    where
      by : (t f : Bool) → same_word_as bytes (codes "true") ≡ t → same_word_as bytes (codes "false") ≡ f → (takes 3 (lexeme_of_word bytes) ≡ true) ⊎ (takes 4 (lexeme_of_word bytes) ≡ true)
      by true f p q = inl (is_number (lexeme_of_word bytes) 3 (true_by bytes (same_word_as bytes (codes "or")) (same_word_as bytes (codes "and")) (same_word_as bytes (codes "not")) refl refl refl p))
      by false true p q = inr (is_number (lexeme_of_word bytes) 4 (false_by bytes (same_word_as bytes (codes "or")) (same_word_as bytes (codes "and")) (same_word_as bytes (codes "not")) (same_word_as bytes (codes "true")) refl refl refl refl q))
      by false false p q = absurd (cc (rw (p, q) at e))
  bool_kind with_params at kind.Sign bytes truth e = absurd (cc e)
  bool_kind with_params at kind.Bad bytes truth e = absurd (cc e)

  bool_token : (with_params : Bool) (at : ℕ) (token : Option Token) (truth : Bool) → value_of with_params text at token ≡ Ok (operand.Literal (value.Bool truth)) → (takes 3 (lexeme_of_token text tokens at token) ≡ true) ⊎ (takes 4 (lexeme_of_token text tokens at token) ≡ true)
  bool_token with_params at (Some token) truth e = bool_kind with_params at token.kind (bytes_of text token) truth e
  bool_token with_params at None truth e = absurd (cc e)

  pub bool_takes : (with_params : Bool) (at : ℕ) (truth : Bool) → value_at with_params text tokens at ≡ Ok (operand.Literal (value.Bool truth)) → (takes 3 (lexeme_at text tokens at) ≡ true) ⊎ (takes 4 (lexeme_at text tokens at) ≡ true)
  unfolding value_at lexeme_at
  bool_takes with_params at truth e = bool_token with_params at (slice_get tokens at) truth e

  -- and the others are integers, texts and parameters
  plain_kind : (with_params : Bool) (at : ℕ) (k : TokenKind) (bytes : List ℕ) (v : Operand) → (v ≡ operand.Literal (value.Bool true) → ⊥) → (v ≡ operand.Literal (value.Bool false) → ⊥) → value_of_kind with_params at k bytes ≡ Ok v → (takes 30 (lexeme_of_kind k bytes) ≡ true) ⊎ ((takes 31 (lexeme_of_kind k bytes) ≡ true) ⊎ (takes 32 (lexeme_of_kind k bytes) ≡ true))
  plain_kind with_params at (kind.Integer n) bytes v a b e = inl refl
  plain_kind with_params at (kind.Text t) bytes v a b e = inr (inl refl)
  plain_kind with_params at (kind.Param n) bytes v a b e = inr (inr refl)
  plain_kind with_params at kind.Word bytes v a b e = absurd (by (same_word_as bytes (codes "true")) (same_word_as bytes (codes "false")) refl refl)
    where
      by : (t f : Bool) → same_word_as bytes (codes "true") ≡ t → same_word_as bytes (codes "false") ≡ f → ⊥
      by true f p q = a (cc (rw p at e))
      by false true p q = b (cc (rw (p, q) at e))
      by false false p q = cc (rw (p, q) at e)
  plain_kind with_params at kind.Sign bytes v a b e = absurd (cc e)
  plain_kind with_params at kind.Bad bytes v a b e = absurd (cc e)

  plain_token : (with_params : Bool) (at : ℕ) (token : Option Token) (v : Operand) → (v ≡ operand.Literal (value.Bool true) → ⊥) → (v ≡ operand.Literal (value.Bool false) → ⊥) → value_of with_params text at token ≡ Ok v → (takes 30 (lexeme_of_token text tokens at token) ≡ true) ⊎ ((takes 31 (lexeme_of_token text tokens at token) ≡ true) ⊎ (takes 32 (lexeme_of_token text tokens at token) ≡ true))
  plain_token with_params at (Some token) v a b e = plain_kind with_params at token.kind (bytes_of text token) v a b e
  plain_token with_params at None v a b e = absurd (cc e)

  pub plain_takes : (with_params : Bool) (at : ℕ) (v : Operand) → (v ≡ operand.Literal (value.Bool true) → ⊥) → (v ≡ operand.Literal (value.Bool false) → ⊥) → value_at with_params text tokens at ≡ Ok v → (takes 30 (lexeme_at text tokens at) ≡ true) ⊎ ((takes 31 (lexeme_at text tokens at) ≡ true) ⊎ (takes 32 (lexeme_at text tokens at) ≡ true))
  unfolding value_at lexeme_at
  plain_takes with_params at v a b e = plain_token with_params at (slice_get tokens at) v a b e

  -- no token is the end of the text
  abbrev pub NotEnd : Lexeme → Type 0
  NotEnd l = takes 47 l ≡ false

  choice_of : (P : Lexeme → Type 0) (b : Bool) (l other : Lexeme) → P l → P other → P (if b then l else other)
  choice_of P true l other p q = p
  choice_of P false l other p q = q

  inner_not_end : (word : List ℕ) → NotEnd (lexeme_of_inner word)
  inner_not_end word = choice_of NotEnd (same_word_as word (codes "as")) lexeme.As _ refl
      (choice_of NotEnd (same_word_as word (codes "except")) lexeme.Except _ refl
      (choice_of NotEnd (same_word_as word (codes "from")) lexeme.From _ refl
      (choice_of NotEnd (same_word_as word (codes "into")) lexeme.Into _ refl
      (choice_of NotEnd (same_word_as word (codes "join")) lexeme.Join _ refl
      (choice_of NotEnd (same_word_as word (codes "on")) lexeme.On _ refl
      (choice_of NotEnd (same_word_as word (codes "union")) lexeme.Union _ refl
      (choice_of NotEnd (same_word_as word (codes "values")) lexeme.Values _ refl
      (choice_of NotEnd (same_word_as word (codes "when")) lexeme.When _ refl
      (choice_of NotEnd (same_word_as word (codes "where")) lexeme.Where _ refl
      (refl))))))))))

  reserved_not_end : (word : List ℕ) → NotEnd (lexeme_of_reserved word)
  reserved_not_end word = choice_of NotEnd (same_word_as word (codes "begin")) lexeme.Begin _ refl
      (choice_of NotEnd (same_word_as word (codes "commit")) lexeme.Commit _ refl
      (choice_of NotEnd (same_word_as word (codes "rollback")) lexeme.Rollback _ refl
      (choice_of NotEnd (same_word_as word (codes "set")) lexeme.Set _ refl
      (choice_of NotEnd (same_word_as word (codes "insert")) lexeme.Insert _ refl
      (choice_of NotEnd (same_word_as word (codes "delete")) lexeme.Delete _ refl
      (choice_of NotEnd (same_word_as word (codes "update")) lexeme.Update _ refl
      (choice_of NotEnd (same_word_as word (codes "select")) lexeme.Select _ refl
      (choice_of NotEnd (same_word_as word (codes "empty")) lexeme.Empty _ refl
      (choice_of NotEnd (same_word_as word (codes "choice")) lexeme.Choice _ refl
      (inner_not_end word))))))))))

  name_not_end : (word : List ℕ) → NotEnd (lexeme_of_name word)
  name_not_end word = choice_of NotEnd (same_word_as word (codes "transaction")) lexeme.Transaction _ refl
      (choice_of NotEnd (same_word_as word (codes "work")) lexeme.Work _ refl
      (choice_of NotEnd (same_word_as word (codes "to")) lexeme.To _ refl
      (refl)))

  word_not_end : (word : List ℕ) → NotEnd (lexeme_of_word word)
  word_not_end word = choice_of NotEnd (same_word_as word (codes "or")) lexeme.Or _ refl
      (choice_of NotEnd (same_word_as word (codes "and")) lexeme.And _ refl
      (choice_of NotEnd (same_word_as word (codes "not")) lexeme.Not _ refl
      (choice_of NotEnd (same_word_as word (codes "true")) lexeme.True _ refl
      (choice_of NotEnd (same_word_as word (codes "false")) lexeme.False _ refl
      (choice_of NotEnd (is_name_of word) (lexeme_of_name word) (lexeme_of_reserved word) (name_not_end word) (reserved_not_end word))))))

  comparison_not_end : (mark : List ℕ) → NotEnd (lexeme_of_comparison mark)
  comparison_not_end mark = choice_of NotEnd (bytes_eq mark (codes "=")) lexeme.Equal _ refl
      (choice_of NotEnd (is_unequal mark) lexeme.NotEqual _ refl
      (choice_of NotEnd (bytes_eq mark (codes "<")) lexeme.Less _ refl
      (choice_of NotEnd (bytes_eq mark (codes "<=")) lexeme.LessEqual _ refl
      (choice_of NotEnd (bytes_eq mark (codes ">")) lexeme.Greater _ refl
      (choice_of NotEnd (bytes_eq mark (codes ">=")) lexeme.GreaterEqual _ refl
      (refl))))))

  mark_not_end : (mark : List ℕ) → NotEnd (lexeme_of_mark mark)
  mark_not_end mark = choice_of NotEnd (bytes_eq mark (codes "(")) lexeme.Open _ refl
      (choice_of NotEnd (bytes_eq mark (codes ")")) lexeme.Close _ refl
      (choice_of NotEnd (bytes_eq mark (codes "[")) lexeme.OpenSquare _ refl
      (choice_of NotEnd (bytes_eq mark (codes "]")) lexeme.CloseSquare _ refl
      (choice_of NotEnd (bytes_eq mark (codes ",")) lexeme.Comma _ refl
      (choice_of NotEnd (bytes_eq mark (codes ";")) lexeme.Semicolon _ refl
      (choice_of NotEnd (bytes_eq mark (codes ".")) lexeme.Dot _ refl
      (choice_of NotEnd (bytes_eq mark (codes "*")) lexeme.Star _ refl
      (comparison_not_end mark))))))))

  kind_not_end : (k : TokenKind) (bytes : List ℕ) → NotEnd (lexeme_of_kind k bytes)
  kind_not_end (kind.Integer n) bytes = refl
  kind_not_end (kind.Text t) bytes = refl
  kind_not_end (kind.Param n) bytes = refl
  kind_not_end kind.Word bytes = word_not_end bytes
  kind_not_end kind.Sign bytes = mark_not_end bytes
  kind_not_end kind.Bad bytes = refl

  end_by : (at : ℕ) (b : Bool) → (at == length tokens) ≡ b → takes 47 (lexeme_of_token text tokens at None) ≡ true → at ≡ length tokens
  end_by at true is e = grind (arith, nat_tests)
  end_by at false is e = absurd (cc (rw is at e))

  end_token : (at : ℕ) (token : Option Token) → takes 47 (lexeme_of_token text tokens at token) ≡ true → at ≡ length tokens
  end_token at (Some token) e = absurd (cc (e, kind_not_end token.kind (bytes_of text token)))
  end_token at None e = end_by at (at == length tokens) refl e

  -- the end of the text stands one behind the last token
  pub end_place : (at : ℕ) → takes 47 (lexeme_at text tokens at) ≡ true → at ≡ length tokens
  unfolding lexeme_at
  end_place at e = end_token at (slice_get tokens at) e
