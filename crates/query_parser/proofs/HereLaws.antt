-- Which tokens stand in a text that prints a sign, a name, a value, a column or a feature expression there.
use Rattle.std.proofs.Common.{◌≡◌, ◌≢◌, ℕ, zero, suc, ◌+◌, ◌-◌, ◌==◌, ◌||◌, if◌then◌else◌, Bool, true, false, List, [], ◌∷◌, ◌++◌, drop, length, get_or, Option, Some, None, Ok, codes, flat_map, decimal, pos, negsuc, refl, sym, ap, ◌∙◌, append_assoc, arith, add-one}
use Rattle.std.specs.Char.{is_ascii_digit}
use Rattle.std.proofs.lemmas.Bool.Decides.{nat_tests}
use Rattle.std.proofs.lemmas.List.{length-drop}
use Rattle.std.proofs.lemmas.Option.{slice_get_past}
use Rattle.feature_expr.specs.ExprGrammar.{sign_of_word, sign_at}
use Rattle.word_tokens.specs.Words.{starts_word, is_name_of, same_word_as}
use Rattle.feature_expr.specs.Names.{refusal}
use Rattle.feature_expr.specs.Printing as exprs
use Rattle.word_tokens.specs.Tokens.{is_white, blank_end, scanned, scanned_at, is_short_sign, is_long_sign, sign_length, StandAt}
use Rattle.values.specs.declared.column_name.ColName.{ColName}
use Rattle.feature_expr.specs.declared.expr.Expr.{Expr}
use Rattle.word_tokens.specs.declared.token.Token.{Token}
use Rattle.word_tokens.specs.declared.token.TokenKind.{TokenKind}
use Rattle.word_tokens.specs.declared.token.TokenKind.TheVariants as kind
use Rattle.values.specs.declared.value.Value.TheVariants as value
use Rattle.feature_expr.proofs.NameLaws.{reserved_false, named_word}
use Rattle.feature_expr.proofs.PrintedLaws.{walks_text}
use Rattle.word_tokens.proofs.StandLaws.{EndsWord, TokenIs, first_at, drop_past, token_here}
use Rattle.feature_expr.proofs.WrittenLaws.{written_read}
use Rattle.vra_syntax.specs.declared.cond.Op.{Op}
use Rattle.vra_syntax.specs.declared.cond.Op.TheVariants as op
use Rattle.vra_syntax.specs.declared.cond.Operand.{Operand}
use Rattle.vra_syntax.specs.declared.cond.Operand.TheVariants as operand
use Rattle.query_parser.specs.Lexemes.{lexeme_of_name, lexeme_of_reserved, lexeme_of_word, lexeme_of_mark, lexeme_of_kind, lexeme_at, stands, is_name, name_at, op_of, op_at, value_of_kind, value_at}
use Rattle.query_parser.specs.Parts.{IsColumn, plain_column, prefixed_column, IsOperand, column_operand, value_operand, IsExpression}
use Rattle.query_printer.specs.Printing.{prefix_text, column_text, byte_text, truth_text, operand_text, op_text}
use Rattle.query_parser.specs.declared.lexeme.Lexeme.{Lexeme}
use Rattle.query_parser.specs.declared.lexeme.Lexeme.TheVariants as lexeme
use Rattle.feature_expr.specs.Nesting.{nesting_limit}
use Rattle.query_parser.proofs.Heres.{Here, word_here, space_here}
use Rattle.query_parser.proofs.Printables.{PlainName, PlainPrefix, PlainColumn, PlainValue, plain_positive, plain_negative, plain_text, plain_truth, plain_param, PlainOperand, plain_column as plain_side, plain_value, PlainExpr}
use Rattle.query_parser.proofs.NumberLaws.{positive_here, negative_here, parameter_here}
use Rattle.query_parser.proofs.QuoteTexts.{quoted_here}

-- no word goes on there, and no quote stands there
abbrev pub Ends : List ℕ → Type 0
Ends post = EndsWord post × ((get_or post 0 0 == 39) ≡ false)

-- one of ( ) [ ] , ; . * =
abbrev pub is_plain_mark : ℕ → Bool
is_plain_mark byte = byte == 40 || byte == 41 || byte == 91 || byte == 93 || byte == 44 || byte == 59 || byte == 46 || byte == 42 || byte == 61

-- a byte that begins nothing but a sign
record BeginsSign (x : ℕ) : Type 0 where
  pub no_blank : is_white x ≡ false
  pub no_word : starts_word x ≡ false
  pub no_digit : is_ascii_digit x ≡ false
  pub no_dash : (x == 45) ≡ false
  pub no_quote : (x == 39) ≡ false
  pub no_dollar : (x == 36) ≡ false

begins_sign : (x : ℕ) → is_short_sign x ≡ true → BeginsSign x
begins_sign x is = record {
  no_blank = grind (arith, nat_tests);
  no_word = grind (arith, nat_tests);
  no_digit = grind (arith, nat_tests);
  no_dash = grind (arith, nat_tests);
  no_quote = grind (arith, nat_tests);
  no_dollar = grind (arith, nat_tests);
}

mark_short : (x : ℕ) → is_plain_mark x ≡ true → is_short_sign x ≡ true
mark_short x is = grind (arith, nat_tests)

scanned_sign : (text : List ℕ) (b x n size : ℕ) → get_or text b 0 ≡ x → get_or text (b + 1) 0 ≡ n → BeginsSign x → sign_length x n ≡ size → (size == 0) ≡ false → scanned_at text b ≡ scanned kind.Sign (b + size)
unfolding scanned_at
scanned_sign text b x n size first next begins is some = rw (first, next, begins.no_word, begins.no_digit, begins.no_dash, begins.no_quote, begins.no_dollar, is, some) refl

no_long_mark : (x n : ℕ) → is_plain_mark x ≡ true → is_long_sign x n ≡ false
no_long_mark x n is =
    let less : (x == 60) ≡ false = grind (arith, nat_tests) in
    let more : (x == 62) ≡ false = grind (arith, nat_tests) in
    let bang : (x == 33) ≡ false = grind (arith, nat_tests) in
    rw (less, more, bang) refl

mark_length : (x n : ℕ) → is_plain_mark x ≡ true → sign_length x n ≡ 1
mark_length x n is =
    rw (no_long_mark x n is, mark_short x is) refl

-- a name is none of the words that have a meaning of their own
name_by : (a b c d f g : Bool) (inner other : Lexeme) → a ≡ false → b ≡ false → c ≡ false → d ≡ false → f ≡ false → g ≡ true → is_name inner ≡ true → is_name (if a then lexeme.Or else (if b then lexeme.And else (if c then lexeme.Not else (if d then lexeme.True else (if f then lexeme.False else (if g then inner else other)))))) ≡ true
name_by a b c d f g inner other ha hb hc hd hf hg is = rw (ha, hb, hc, hd, hf, hg) is

inner_name : (a b c : Bool) → is_name (if a then lexeme.Transaction else (if b then lexeme.Work else (if c then lexeme.To else lexeme.Name))) ≡ true
inner_name true b c = refl
inner_name false true c = refl
inner_name false false true = refl
inner_name false false false = refl

name_lexeme : (name : List ℕ) → is_name_of name ≡ true → is_name (lexeme_of_word name) ≡ true
name_lexeme name is =
    let free = (named_word name is).1 in
    let or = reserved_false name 18 (same_word_as name (codes "or")) (omega arith) refl free in
    let and = reserved_false name 1 (same_word_as name (codes "and")) (omega arith) refl free in
    let no = reserved_false name 16 (same_word_as name (codes "not")) (omega arith) refl free in
    let yes = reserved_false name 22 (same_word_as name (codes "true")) (omega arith) refl free in
    let off = reserved_false name 10 (same_word_as name (codes "false")) (omega arith) refl free in
    name_by (same_word_as name (codes "or")) (same_word_as name (codes "and")) (same_word_as name (codes "not")) (same_word_as name (codes "true")) (same_word_as name (codes "false")) (is_name_of name) (lexeme_of_name name) (lexeme_of_reserved name) or and no yes off is
    (inner_name (same_word_as name (codes "transaction")) (same_word_as name (codes "work")) (same_word_as name (codes "to")))

same_number : (i : ℕ) → (i == i) ≡ true
same_number i = grind (arith, nat_tests)

last_at : (text : List ℕ) (b x : ℕ) → drop b text ≡ x ∷ [] → get_or text (suc b) 0 ≡ 0
last_at [] zero x is = absurd (cc is)
last_at [] (suc b) x is = absurd (cc is)
last_at (y ∷ text) zero x is = let none : text ≡ [] = cc is in rw none refl
last_at (y ∷ text) (suc b) x is = last_at text b x is

module _ (text : List ℕ) (tokens : List Token) where
  pub lexeme_here : (k : ℕ) (kind : TokenKind) (piece : List ℕ) → TokenIs text tokens k kind piece → lexeme_at text tokens k ≡ lexeme_of_kind kind piece
  unfolding lexeme_at
  lexeme_here k kind piece t = rw (t.found, t.is_kind, t.spells) refl

  -- the byte behind the first one
  next_at : (b x n : ℕ) (rest : List ℕ) → drop b text ≡ x ∷ rest → get_or rest 0 0 ≡ n → get_or text (b + 1) 0 ≡ n
  next_at b x n [] is next = rw add-one (last_at text b x is) ∙ next
  next_at b x n (y ∷ rest) is next = (first_at text (b + 1) y rest (drop_past text b (x ∷ []) (y ∷ rest) is)).0 ∙ next

  sign_here : (k x n : ℕ) (xs post : List ℕ) → BeginsSign x → sign_length x n ≡ length (x ∷ xs) → get_or (xs ++ post) 0 0 ≡ n → Here text tokens k ((x ∷ xs) ++ post) → TokenIs text tokens k kind.Sign (x ∷ xs) × Here text tokens (k + 1) post
  sign_here k x n xs post begins size next h =
      let scan = scanned_sign text h.place x n (length (x ∷ xs)) (first_at text h.place x (xs ++ post) h.left).0 (next_at h.place x n (xs ++ post) h.left next) begins size (grind (arith, nat_tests)) in
      let t = token_here text tokens k h.place x kind.Sign xs post tt h.left begins.no_blank begins.no_dash scan h.stands in
      (t.0, record { place = h.place + length (x ∷ xs); left = drop_past text h.place (x ∷ xs) post h.left; stands = t.1 })

  pub mark_here : (k x : ℕ) (post : List ℕ) → is_plain_mark x ≡ true → Here text tokens k (x ∷ post) → TokenIs text tokens k kind.Sign (x ∷ []) × Here text tokens (k + 1) post
  mark_here k x post is h = sign_here k x (get_or post 0 0) [] post (begins_sign x (mark_short x is)) (mark_length x (get_or post 0 0) is) refl h

  operator_here : (op : Op) (k x n : ℕ) (xs post : List ℕ) → BeginsSign x → sign_length x n ≡ length (x ∷ xs) → get_or (xs ++ 32 ∷ post) 0 0 ≡ n → op_of (lexeme_of_mark (x ∷ xs)) ≡ Some op → Here text tokens k (32 ∷ ((x ∷ xs) ++ 32 ∷ post)) → (op_at text tokens k ≡ Some op) × Here text tokens (k + 1) post
  operator_here op k x n xs post begins size next means h =
      let s = sign_here k x n xs (32 ∷ post) begins size next (space_here text tokens k ((x ∷ xs) ++ 32 ∷ post) h) in
      (rw (lexeme_here k kind.Sign (x ∷ xs) s.0) means, space_here text tokens (k + 1) post s.1)

  pub op_here : (op : Op) (k : ℕ) (post : List ℕ) → Here text tokens k (op_text op ++ post) → (op_at text tokens k ≡ Some op) × Here text tokens (k + 1) post
  op_here op.Eq k post h = operator_here op.Eq k 61 32 [] post (begins_sign 61 refl) refl refl refl h
  op_here op.Ne k post h = operator_here op.Ne k 60 62 (62 ∷ []) post (begins_sign 60 refl) refl refl refl h
  op_here op.Lt k post h = operator_here op.Lt k 60 32 [] post (begins_sign 60 refl) refl refl refl h
  op_here op.Le k post h = operator_here op.Le k 60 61 (61 ∷ []) post (begins_sign 60 refl) refl refl refl h
  op_here op.Gt k post h = operator_here op.Gt k 62 32 [] post (begins_sign 62 refl) refl refl refl h
  op_here op.Ge k post h = operator_here op.Ge k 62 61 (61 ∷ []) post (begins_sign 62 refl) refl refl refl h

  pub name_here : (name : List ℕ) (k : ℕ) (post : List ℕ) → PlainName name → EndsWord post → Here text tokens k (name ++ post) → (name_at text tokens k ≡ Some name) × Here text tokens (k + 1) post
  unfolding name_at
  name_here name k post plain ends h =
      let w = word_here text tokens k name post (named_word name plain.0).0 ends h in
      (rw (lexeme_here k kind.Word name w.0, name_lexeme name plain.0, w.0.found, w.0.spells) (ap Some plain.1), w.1)

  -- a token that is a value is no name
  value_is : (with_params : Bool) (v : Operand) (k : ℕ) (kind : TokenKind) (piece : List ℕ) → TokenIs text tokens k kind piece → value_of_kind with_params k kind piece ≡ Ok v → is_name (lexeme_of_kind kind piece) ≡ false → (value_at with_params text tokens k ≡ Ok v) × (name_at text tokens k ≡ None)
  unfolding value_at name_at
  value_is with_params v k kind piece t is unnamed = (rw (t.found, t.is_kind, t.spells) is, rw (lexeme_here k kind piece t, unnamed) refl)

  truth_here : (with_params truth : Bool) (k : ℕ) (post : List ℕ) → EndsWord post → Here text tokens k (truth_text truth ++ post) → (value_at with_params text tokens k ≡ Ok (operand.Literal (value.Bool truth))) × (name_at text tokens k ≡ None) × Here text tokens (k + 1) post
  truth_here with_params true k post ends h =
      let w = word_here text tokens k (codes "true") post refl ends h in
      let is = value_is with_params (operand.Literal (value.Bool true)) k kind.Word (codes "true") w.0 refl refl in
      (is.0, is.1, w.1)
  truth_here with_params false k post ends h =
      let w = word_here text tokens k (codes "false") post refl ends h in
      let is = value_is with_params (operand.Literal (value.Bool false)) k kind.Word (codes "false") w.0 refl refl in
      (is.0, is.1, w.1)

  pub value_here : (with_params : Bool) (v : Operand) (k : ℕ) (post : List ℕ) → PlainValue with_params v → Ends post → Here text tokens k (operand_text v ++ post) → (value_at with_params text tokens k ≡ Ok v) × (name_at text tokens k ≡ None) × Here text tokens (k + 1) post
  value_here with_params v k post (plain_positive n small) ends h =
      let t = positive_here text tokens k n post small ends.0 h in
      let is = value_is with_params (operand.Literal (value.Int (pos n))) k (kind.Integer (Some (pos n))) (decimal n) t.0 refl refl in
      (is.0, is.1, t.1)
  value_here with_params v k post (plain_negative n small) ends h =
      let t = negative_here text tokens k n post small ends.0 h in
      let is = value_is with_params (operand.Literal (value.Int (negsuc n))) k (kind.Integer (Some (negsuc n))) (45 ∷ decimal (suc n)) t.0 refl refl in
      (is.0, is.1, t.1)
  value_here with_params v k post (plain_text bytes all) ends h =
      let t = quoted_here text tokens k bytes post all ends.1 h in
      let is = value_is with_params (operand.Literal (value.Text bytes)) k (kind.Text bytes) (39 ∷ (flat_map byte_text bytes ++ 39 ∷ [])) t.0 refl refl in
      (is.0, is.1, t.1)
  value_here with_params v k post (plain_truth truth) ends h = truth_here with_params truth k post ends.0 h
  value_here with_params v k post (plain_param number taken some small) ends h =
      let t = parameter_here text tokens k number post some small ends.0 h in
      let is = value_is with_params (operand.Param number) k (kind.Param (Some number)) (36 ∷ decimal number) t.0 (rw taken refl) refl in
      (is.0, is.1, t.1)

  none_behind : (b : ℕ) (ts : List Token) → drop b text ≡ [] → StandAt text (blank_end text b) ts → ts ≡ []
  unfolding blank_end
  none_behind b [] is stand = refl
  none_behind b (t ∷ ts) is stand =
      let size : length text - b ≡ 0 = sym (length-drop b text) ∙ rw is refl in
      absurd (omega (arith, size, stand.0))

  pub end_here : (k : ℕ) → Here text tokens k [] → (lexeme_at text tokens k ≡ lexeme.End) × (sign_at text tokens k ≢ sign_of_word (codes "or")) × (sign_at text tokens k ≢ sign_of_word (codes "and"))
  unfolding lexeme_at sign_at
  end_here k h =
      let none = none_behind h.place (drop k tokens) h.left h.stands.stand in
      let size : length tokens - k ≡ 0 = sym (length-drop k tokens) ∙ rw none refl in
      let here : k ≡ length tokens = omega (arith, size, h.stands.within) in
      rw (slice_get_past tokens k (omega (arith, here)), here, same_number (length tokens)) (refl, λ e. cc e, λ e. cc e)

  -- a column, where no dot stands behind it
  pub record ColumnHere (k : ℕ) (column : ColName) (post : List ℕ) : Type 0 where
    pub end : ℕ
    pub spelled : stands text tokens end lexeme.Dot ≡ false → IsColumn text tokens k column end
    pub here : Here text tokens end post

  column_by : (prefix : Option (List ℕ)) (base : List ℕ) (k : ℕ) (post : List ℕ) → PlainPrefix prefix → PlainName base → EndsWord post → Here text tokens k ((prefix_text prefix ++ base) ++ post) → ColumnHere k (record { prefix = prefix; base = base }) post
  column_by None base k post plain plain' ends h =
      let n = name_here base k post plain' ends h in
      record { end = k + 1; spelled = λ dot. plain_column base n.0 dot; here = n.1 }
  column_by (Some prefix) base k post plain plain' ends h =
      let n = name_here prefix k (46 ∷ (base ++ post)) plain refl (simp append_assoc at h) in
      let d = mark_here (k + 1) 46 (base ++ post) refl n.1 in
      let second : k + 1 + 1 ≡ k + 2 = omega arith in
      let third : k + 2 + 1 ≡ k + 3 = omega arith in
      let m = name_here base (k + 2) post plain' ends (rw second at d.1) in
      record {
        end = k + 3;
        spelled = λ dot. prefixed_column prefix base n.0 (rw (lexeme_here (k + 1) kind.Sign (46 ∷ []) d.0) refl) m.0;
        here = rw third at m.1;
      }

  pub column_here : (column : ColName) (k : ℕ) (post : List ℕ) → PlainColumn column → EndsWord post → Here text tokens k (column_text column ++ post) → ColumnHere k column post
  column_here column k post plain ends h = column_by column.prefix column.base k post plain.0 plain.1 ends h

  -- a column or a value, where no dot stands behind it
  pub record OperandHere (with_params : Bool) (k : ℕ) (v : Operand) (post : List ℕ) : Type 0 where
    pub end : ℕ
    pub spelled : stands text tokens end lexeme.Dot ≡ false → IsOperand with_params text tokens k v end
    pub here : Here text tokens end post

  pub operand_here : (with_params : Bool) (v : Operand) (k : ℕ) (post : List ℕ) → PlainOperand with_params v → Ends post → Here text tokens k (operand_text v ++ post) → OperandHere with_params k v post
  operand_here with_params v k post (plain_side column good) ends h =
      let c = column_here column k post good ends.0 h in
      record { end = c.end; spelled = λ dot. column_operand column c.end (c.spelled dot); here = c.here }
  operand_here with_params v k post (plain_value v' good) ends h =
      let t = value_here with_params v' k post good ends h in
      record { end = k + 1; spelled = λ dot. value_operand v' t.1 t.0; here = t.2 }

  -- a feature expression, where no `or` and no `and` stand behind it
  pub record ExpressionHere (names : List (List ℕ)) (n k : ℕ) (expr : Expr) (post : List ℕ) : Type 0 where
    pub end : ℕ
    pub spelled : sign_at text tokens end ≢ sign_of_word (codes "or") → sign_at text tokens end ≢ sign_of_word (codes "and") → IsExpression names text tokens n k expr end
    pub here : Here text tokens end post

  pub expression_here : (names : List (List ℕ)) → refusal names ≡ None → (n : ℕ) (expr : Expr) (k : ℕ) (post : List ℕ) → PlainExpr names n expr → EndsWord post → Here text tokens k (exprs.text_of names expr ++ post) → ExpressionHere names n k expr post
  expression_here names none n expr k post plain ends h =
      let w = walks_text names text tokens nesting_limit none expr n k h.place post plain.0 plain.1 h.left ends h.stands in
      record {
        end = w.end;
        spelled = λ or and. record { read = written_read names text tokens nesting_limit n k w.end expr w.written or and; spelled = w.written.spelled };
        here = record { place = h.place + length (exprs.text_of names expr); left = drop_past text h.place (exprs.text_of names expr) post h.left; stands = w.stands };
      }
