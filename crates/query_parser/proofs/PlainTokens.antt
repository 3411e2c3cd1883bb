-- What the tokens of a text spell by themselves is plain: names in lower case, and values within their ranges.
use Rattle.std.proofs.Common.{◌≡◌, ℕ, zero, suc, ◌+◌, ◌-◌, ◌*◌, ◌^◌, ◌<◌, ◌≤◌, ◌==◌, ◌&&◌, not, Bool, true, false, nat_lt, nat_le, if◌then◌else◌, List, [], ◌∷◌, map, length, take, drop, slice_get, slice_index, get_or, fold, ℤ, pos, negsuc, neg_ℤ, Option, Some, None, Ok, Err, refl, sym, subst, ◌∙◌, arith}
use Rattle.std.specs.Prelude.{codes}
use Rattle.std.specs.Char.{is_ascii_digit, to_ascii_lowercase}
use Rattle.std.specs.List.{list_all, prefix_len, slice_range}
use Rattle.std.specs.Str.{bytes_eq}
use Rattle.std.proofs.lemmas.Bool.Decides.{nat_tests}
use Rattle.std.proofs.lemmas.List.{length-map}
use Rattle.word_tokens.specs.Words.{starts_word, continues_word, is_word_of, same_word_as, is_reserved_word, is_name_of}
use Rattle.word_tokens.specs.Tokens.{closing_from, closing_at, unquoted, number_of, integer_of, parameter_limit, parameter_of, run_end, Scanned, quoted_at, sign_length, sign_at, scanned_at, blank_end, token_at, IfBad, StandAt, AreTokens, bytes_of}
use Rattle.word_tokens.specs.declared.token.Token.{Token}
use Rattle.word_tokens.specs.declared.token.TokenKind.{TokenKind}
use Rattle.word_tokens.specs.declared.token.TokenKind.TheVariants as kind
use Rattle.values.specs.declared.value.Value.TheVariants as value
use Rattle.feature_expr.proofs.NameLaws.{not_true}
use Rattle.word_tokens.proofs.StandLaws.{both_true}
use Rattle.vra_syntax.specs.declared.cond.Operand.{Operand}
use Rattle.vra_syntax.specs.declared.cond.Operand.TheVariants as operand
use Rattle.query_parser.specs.Lexemes.{lexeme_of_name, lexeme_of_inner, lexeme_of_reserved, lexeme_of_word, is_unequal, lexeme_of_comparison, lexeme_of_mark, lexeme_of_kind, lexeme_of_token, lexeme_at, is_name, folded_of, name_at, value_of_kind, value_of, value_at}
use Rattle.query_parser.specs.declared.fault.ParseFault.TheVariants as fault
use Rattle.query_parser.specs.declared.lexeme.Lexeme.{Lexeme}
use Rattle.query_parser.specs.declared.lexeme.Lexeme.TheVariants as lexeme
use Rattle.query_parser.proofs.Printables.{PlainName, IsQuotable, PlainValue, plain_positive, plain_negative, plain_text, plain_truth, plain_param}

-- a byte in lower case
lower_lower : (byte : ℕ) → to_ascii_lowercase (to_ascii_lowercase byte) ≡ to_ascii_lowercase byte
lower_lower byte = grind (arith, nat_tests)

lower_starts : (byte : ℕ) → starts_word (to_ascii_lowercase byte) ≡ starts_word byte
lower_starts byte = grind (arith, nat_tests)

lower_continues : (byte : ℕ) → continues_word (to_ascii_lowercase byte) ≡ continues_word byte
lower_continues byte = grind (arith, nat_tests)

-- a name in lower case is the same name
lower_twice : (word : List ℕ) → map to_ascii_lowercase (map to_ascii_lowercase word) ≡ map to_ascii_lowercase word
lower_twice [] = refl
lower_twice (byte ∷ word) = rw (lower_lower byte, lower_twice word) refl

lower_all : (word : List ℕ) → list_all continues_word (map to_ascii_lowercase word) ≡ list_all continues_word word
lower_all [] = refl
lower_all (byte ∷ word) = rw (lower_continues byte, lower_all word) refl

lower_word : (word : List ℕ) → is_word_of (map to_ascii_lowercase word) ≡ is_word_of word
lower_word [] = refl
lower_word (byte ∷ word) = rw (lower_starts byte, lower_all word) refl

lower_reserved : (word : List ℕ) → is_reserved_word (map to_ascii_lowercase word) ≡ is_reserved_word word
lower_reserved word = rw (lower_twice word) refl

lower_name : (word : List ℕ) → is_name_of (map to_ascii_lowercase word) ≡ is_name_of word
lower_name word = rw (length-map word to_ascii_lowercase, lower_word word, lower_reserved word) refl

-- a word that is read as a name is one
not_if : (b : Bool) (x y : Lexeme) → is_name x ≡ false → is_name y ≡ false → is_name (if b then x else y) ≡ false
not_if true x y h g = h
not_if false x y h g = g

inner_unnamed : (word : List ℕ) → is_name (lexeme_of_inner word) ≡ false
inner_unnamed word =
    not_if (same_word_as word (codes "as")) _ _ refl (not_if (same_word_as word (codes "except")) _ _ refl (not_if (same_word_as word (codes "from")) _ _ refl (not_if (same_word_as word (codes "into")) _ _ refl (not_if (same_word_as word (codes "join")) _ _ refl
    (not_if (same_word_as word (codes "on")) _ _ refl (not_if (same_word_as word (codes "union")) _ _ refl (not_if (same_word_as word (codes "values")) _ _ refl (not_if (same_word_as word (codes "when")) _ _ refl (not_if (same_word_as word (codes "where")) _ _ refl refl)))))))))

reserved_unnamed : (word : List ℕ) → is_name (lexeme_of_reserved word) ≡ false
reserved_unnamed word =
    not_if (same_word_as word (codes "begin")) _ _ refl (not_if (same_word_as word (codes "commit")) _ _ refl (not_if (same_word_as word (codes "rollback")) _ _ refl (not_if (same_word_as word (codes "set")) _ _ refl (not_if (same_word_as word (codes "insert")) _ _ refl
    (not_if (same_word_as word (codes "delete")) _ _ refl (not_if (same_word_as word (codes "update")) _ _ refl (not_if (same_word_as word (codes "select")) _ _ refl (not_if (same_word_as word (codes "empty")) _ _ refl (not_if (same_word_as word (codes "choice")) _ _ refl (inner_unnamed word))))))))))

named_if : (word : List ℕ) (b : Bool) → is_name_of word ≡ b → is_name (if b then lexeme_of_name word else lexeme_of_reserved word) ≡ true → is_name_of word ≡ true
named_if word true given is = given
named_if word false given is = absurd (cc (is, reserved_unnamed word))

otherwise : (b : Bool) (x y : Lexeme) → is_name x ≡ false → is_name (if b then x else y) ≡ true → is_name y ≡ true
otherwise true x y h is = absurd (cc (h, is))
otherwise false x y h is = is

word_named : (word : List ℕ) → is_name (lexeme_of_word word) ≡ true → is_name_of word ≡ true
word_named word is =
    named_if word (is_name_of word) refl
    (otherwise (same_word_as word (codes "false")) lexeme.False _ refl (otherwise (same_word_as word (codes "true")) lexeme.True _ refl (otherwise (same_word_as word (codes "not")) lexeme.Not _ refl (otherwise (same_word_as word (codes "and")) lexeme.And _ refl (otherwise (same_word_as word (codes "or")) lexeme.Or _ refl is)))))

comparison_unnamed : (mark : List ℕ) → is_name (lexeme_of_comparison mark) ≡ false
comparison_unnamed mark =
    not_if (bytes_eq mark (codes "=")) _ _ refl (not_if (is_unequal mark) _ _ refl (not_if (bytes_eq mark (codes "<")) _ _ refl (not_if (bytes_eq mark (codes "<=")) _ _ refl (not_if (bytes_eq mark (codes ">")) _ _ refl (not_if (bytes_eq mark (codes ">=")) _ _ refl refl)))))

mark_unnamed : (mark : List ℕ) → is_name (lexeme_of_mark mark) ≡ false
mark_unnamed mark =
    not_if (bytes_eq mark (codes "(")) _ _ refl (not_if (bytes_eq mark (codes ")")) _ _ refl (not_if (bytes_eq mark (codes "[")) _ _ refl (not_if (bytes_eq mark (codes "]")) _ _ refl (not_if (bytes_eq mark (codes ",")) _ _ refl
    (not_if (bytes_eq mark (codes ";")) _ _ refl (not_if (bytes_eq mark (codes ".")) _ _ refl (not_if (bytes_eq mark (codes "*")) _ _ refl (comparison_unnamed mark))))))))

kind_named : (k : TokenKind) (bytes : List ℕ) → is_name (lexeme_of_kind k bytes) ≡ true → is_name_of bytes ≡ true
kind_named kind.Word bytes is = word_named bytes is
kind_named (kind.Integer n) bytes is = absurd (cc is)
kind_named (kind.Text t) bytes is = absurd (cc is)
kind_named (kind.Param n) bytes is = absurd (cc is)
kind_named kind.Sign bytes is = absurd (cc (is, mark_unnamed bytes))
kind_named kind.Bad bytes is = absurd (cc is)

module _ (text : List ℕ) (tokens : List Token) where
  folded_plain : (at : ℕ) (found : Option Token) (name : List ℕ) (b : Bool) → is_name (lexeme_of_token text tokens at found) ≡ b → folded_of b text found ≡ Some name → PlainName name
  folded_plain at (Some token) name true is e =
      let same : map to_ascii_lowercase (bytes_of text token) ≡ name = cc e in
      rw (← same) (lower_name (bytes_of text token) ∙ kind_named token.kind (bytes_of text token) is, lower_twice (bytes_of text token))
  folded_plain at None name true is e = absurd (cc e)
  folded_plain at found name false is e = absurd (cc e)

  pub plain_name : (at : ℕ) (name : List ℕ) → name_at text tokens at ≡ Some name → PlainName name
  unfolding name_at lexeme_at
  plain_name at name e = folded_plain at (slice_get tokens at) name (is_name (lexeme_of_token text tokens at (slice_get tokens at))) refl e

-- what stands behind a token, where some token does
behind_token : (k : TokenKind) (ts : List Token) (i : ℕ) (t : Token) (X : Type 0) → slice_get ts i ≡ Some t → IfBad k (ts ≡ []) X → X
behind_token kind.Bad ts i t X is rest = absurd (cc (rw rest at is))
behind_token kind.Word ts i t X is rest = rest
behind_token (kind.Integer n) ts i t X is rest = rest
behind_token (kind.Text chars) ts i t X is rest = rest
behind_token (kind.Param n) ts i t X is rest = rest
behind_token kind.Sign ts i t X is rest = rest

-- a token is what is scanned where it begins
pub record IsScanned (text : List ℕ) (t : Token) : Type 0 where
  pub same : t ≡ token_at text t.start
  pub within : t.start < length text

scanned_from : (text : List ℕ) (at : ℕ) (ts : List Token) (i : ℕ) (t : Token) → StandAt text at ts → slice_get ts i ≡ Some t → IsScanned text t
scanned_from text at [] i t stand is = absurd (cc is)
scanned_from text at (x ∷ ts) zero t stand is =
    let same : x ≡ t = cc is in
    let start : x.start ≡ at = rw stand.1 refl in
    rw (← same) (record { same = subst (λ (place : ℕ). x ≡ token_at text place) (sym start) stand.1; within = rw start stand.0 })
scanned_from text at (x ∷ ts) (suc i) t stand is = scanned_from text (blank_end text x.end) ts i t (behind_token x.kind ts i t (StandAt text (blank_end text x.end) ts) is stand.2) is

pub token_scanned : (text : List ℕ) (tokens : List Token) (k : ℕ) (t : Token) → AreTokens text tokens → slice_get tokens k ≡ Some t → IsScanned text t
token_scanned text tokens k t are is = scanned_from text (blank_end text 0) tokens k t are.stand is

-- the values that tokens have
abbrev IntegerRange : Option ℤ → Type 0
IntegerRange None = Unit {0}
IntegerRange (Some (pos n)) = n < 2 ^ 63
IntegerRange (Some (negsuc n)) = n < 2 ^ 63

abbrev ParameterRange : Option ℕ → Type 0
ParameterRange None = Unit {0}
ParameterRange (Some n) = (0 < n) × (n ≤ parameter_limit)

abbrev KindRange : TokenKind → Type 0
KindRange kind.Word = Unit {0}
KindRange (kind.Integer number) = IntegerRange number
KindRange (kind.Text chars) = IsQuotable chars
KindRange (kind.Param number) = ParameterRange number
KindRange kind.Sign = Unit {0}
KindRange kind.Bad = Unit {0}

negative_range : (n : ℕ) (b : Bool) → nat_le n (2 ^ 63) ≡ b → IntegerRange (if b then Some (neg_ℤ (pos n)) else None)
negative_range zero true is = omega arith
negative_range (suc n) true is = grind (arith, nat_tests)
negative_range n false is = tt

positive_range : (n : ℕ) (b : Bool) → nat_lt n (2 ^ 63) ≡ b → IntegerRange (if b then Some (pos n) else None)
positive_range n true is = grind (arith, nat_tests)
positive_range n false is = tt

integer_range : (negative : Bool) (digits : List ℕ) → IntegerRange (integer_of negative digits)
integer_range true digits = negative_range (number_of digits) (nat_le (number_of digits) (2 ^ 63)) refl
integer_range false digits = positive_range (number_of digits) (nat_lt (number_of digits) (2 ^ 63)) refl

-- digits of which the first isn't 0
fold_some : (n : ℕ) (digits : List ℕ) → 0 < n → 0 < fold (λ m digit. m * 10 + (digit - 48)) n digits
fold_some n [] some = some
fold_some n (digit ∷ digits) some = fold_some (n * 10 + (digit - 48)) digits (omega (arith, some))

digits_some : (rest : List ℕ) → is_ascii_digit (get_or rest 0 0) ≡ true → (get_or rest 0 0 == 48) ≡ false → 0 < number_of (take (prefix_len is_ascii_digit rest) rest)
digits_some [] digit other = absurd (cc digit)
digits_some (byte ∷ rest) digit other =
    let order : 1 + prefix_len is_ascii_digit rest ≡ suc (prefix_len is_ascii_digit rest) = omega arith in
    rw (digit, order) (fold_some (0 * 10 + (byte - 48)) (take (prefix_len is_ascii_digit rest) rest) (grind (arith, nat_tests)))

first_dropped : (text : List ℕ) (at : ℕ) → get_or (drop at text) 0 0 ≡ get_or text at 0
first_dropped [] zero = refl
first_dropped [] (suc at) = refl
first_dropped (byte ∷ text) zero = refl
first_dropped (byte ∷ text) (suc at) = first_dropped text at

limited : (n : ℕ) (b : Bool) → nat_le n parameter_limit ≡ b → 0 < n → ParameterRange (if b then Some n else None)
limited n true is some = (some, grind (arith, nat_tests))
limited n false is some = tt

parameter_range : (text : List ℕ) (at : ℕ) → is_ascii_digit (slice_index text at) ≡ true → (slice_index text at == 48) ≡ false → ParameterRange (parameter_of (slice_range text at (run_end is_ascii_digit text at)))
parameter_range text at digit other =
    let rest = drop at text in
    let size : (at + prefix_len is_ascii_digit rest) - at ≡ prefix_len is_ascii_digit rest = omega arith in
    let some : 0 < number_of (take (prefix_len is_ascii_digit rest) rest) = digits_some rest (rw (first_dropped text at) digit) (rw (first_dropped text at) other) in
    limited (number_of (slice_range text at (run_end is_ascii_digit text at))) (nat_le (number_of (slice_range text at (run_end is_ascii_digit text at))) parameter_limit) refl (rw size some)

-- no zero byte stands before the closing quote
some_byte : (x : ℕ) (bytes : List ℕ) → (x == 0) ≡ false → IsQuotable bytes → IsQuotable (x ∷ bytes)
some_byte x bytes some rest = rw (some, rest) refl

two_closed : (z q r : Bool) (at end : ℕ) (pair on : Option ℕ) (X : Type 0) → (z ≡ false → q ≡ true → r ≡ true → pair ≡ Some end → X) → (z ≡ false → q ≡ true → r ≡ false → at + 1 ≡ end → X) → (z ≡ false → q ≡ false → on ≡ Some end → X) → (if z then None else (if q then (if r then pair else Some (at + 1)) else on)) ≡ Some end → X
two_closed true q r at end pair on X f g h is = absurd (cc is)
two_closed false true true at end pair on X f g h is = f refl refl refl is
two_closed false true false at end pair on X f g h is = g refl refl refl (cc is)
two_closed false false r at end pair on X f g h is = h refl refl is

one_closed : (q : Bool) (at end : ℕ) → (if q then Some (at + 1) else None) ≡ Some end → at + 1 ≡ end
one_closed true at end is = cc is
one_closed false at end is = absurd (cc is)

quote_some : (y : ℕ) → (y == 39) ≡ true → (y == 0) ≡ false
quote_some y h = grind (arith, nat_tests)

closed : (at : ℕ) (bytes : List ℕ) (end count : ℕ) → closing_from at bytes ≡ Some end → at + count + 1 ≡ end → IsQuotable (take count bytes)
closed at [] end count is size = absurd (cc is)
closed at (x ∷ bytes) end zero is size = refl
closed at (x ∷ []) end (suc count) is size = let same = one_closed (x == 39) at end is in absurd (omega (arith, same, size))
closed at (x ∷ y ∷ bytes) end (suc zero) is size =
    two_closed (x == 0) (x == 39) (y == 39) at end (closing_from (at + 2) bytes) (closing_from (at + 1) (y ∷ bytes)) (IsQuotable (x ∷ []))
    (λ some quote next e. some_byte x [] some refl) (λ some quote next e. some_byte x [] some refl) (λ some other e. some_byte x [] some refl) is
closed at (x ∷ y ∷ bytes) end (suc (suc count)) is size =
    two_closed (x == 0) (x == 39) (y == 39) at end (closing_from (at + 2) bytes) (closing_from (at + 1) (y ∷ bytes)) (IsQuotable (x ∷ y ∷ take count bytes))
    (λ some quote next e. some_byte x (y ∷ take count bytes) some (some_byte y (take count bytes) (quote_some y next) (closed (at + 2) bytes end count e (omega (arith, size)))))
    (λ some quote next e. absurd (omega (arith, e, size)))
    (λ some other e. some_byte x (y ∷ take count bytes) some (closed (at + 1) (y ∷ bytes) end (suc count) e (omega (arith, size)))) is

byte_parts : (x : ℕ) (bytes : List ℕ) → IsQuotable (x ∷ bytes) → ((x == 0) ≡ false) × IsQuotable bytes
byte_parts x bytes all = let parts = both_true (not (x == 0)) (list_all (λ byte. not (byte == 0)) bytes) all in (not_true (x == 0) parts.0, parts.1)

unquoted_if : (q : Bool) (x : ℕ) (pair on : List ℕ) → (x == 0) ≡ false → IsQuotable pair → IsQuotable on → IsQuotable (x ∷ (if q then pair else on))
unquoted_if true x pair on some a b = some_byte x pair some a
unquoted_if false x pair on some a b = some_byte x on some b

unquoted_quotable : (bytes : List ℕ) → IsQuotable bytes → IsQuotable (unquoted bytes)
unquoted_quotable [] all = refl
unquoted_quotable (x ∷ []) all = all
unquoted_quotable (x ∷ y ∷ bytes) all =
    let rest = byte_parts x (y ∷ bytes) all in
    unquoted_if (x == 39) x (unquoted bytes) (unquoted (y ∷ bytes)) rest.0 (unquoted_quotable bytes (byte_parts y bytes rest.1).1) (unquoted_quotable (y ∷ bytes) rest.1)

taken_quotable : (at : ℕ) (bytes : List ℕ) (end count : ℕ) → closing_from at bytes ≡ Some end → (end - 1) - at ≡ count → IsQuotable (take count bytes)
taken_quotable at bytes end zero is size = refl
taken_quotable at bytes end (suc count) is size = closed at bytes end (suc count) is (omega (arith, size))

quoted_range : (text : List ℕ) (at : ℕ) (found : Option ℕ) → closing_from (at + 1) (drop (at + 1) text) ≡ found → KindRange (quoted_at text at found).kind
quoted_range text at None is = tt
quoted_range text at (Some end) is = unquoted_quotable (slice_range text (at + 1) (end - 1)) (taken_quotable (at + 1) (drop (at + 1) text) end ((end - 1) - (at + 1)) is refl)

sign_range : (text : List ℕ) (at size : ℕ) (b : Bool) → (size == 0) ≡ b → KindRange (sign_at text at size).kind
sign_range text at size true is = rw is tt
sign_range text at size false is = rw is tt

range_if : (b : Bool) (x y : Scanned) → (b ≡ true → KindRange x.kind) → (b ≡ false → KindRange y.kind) → KindRange (if b then x else y).kind
range_if true x y good bad = good refl
range_if false x y good bad = bad refl

scanned_range : (text : List ℕ) (at : ℕ) → KindRange (scanned_at text at).kind
unfolding scanned_at closing_at
scanned_range text at =
    let first = slice_index text at in
    let next = slice_index text (at + 1) in
    range_if (starts_word first) _ _ (λ _. tt) (λ _. range_if (is_ascii_digit first) _ _ (λ _. integer_range false (slice_range text at (run_end is_ascii_digit text at))) (λ _. range_if (first == 45) _ _ (λ _. range_if (is_ascii_digit next) _ _ (λ _. integer_range true (slice_range text (at + 1) (run_end is_ascii_digit text (at + 1)))) (λ _. tt))
    (λ _. range_if (first == 39) _ _ (λ _. quoted_range text at (closing_at text (at + 1)) refl) (λ _. range_if (first == 36) _ _ (λ _. range_if (is_ascii_digit next && not (next == 48)) _ _
    (λ h. let parts = both_true (is_ascii_digit next) (not (next == 48)) h in parameter_range text (at + 1) parts.0 (not_true (next == 48) parts.1)) (λ _. tt)) (λ _. sign_range text at (sign_length first next) (sign_length first next == 0) refl)))))

token_range : (text : List ℕ) (t : Token) → IsScanned text t → KindRange t.kind
token_range text t scan = subst (λ (x : Token). KindRange x.kind) (sym scan.same) (scanned_range text t.start)

truth_plain : (with_params yes_word no_word : Bool) (at : ℕ) (v : Operand) → (if yes_word then Ok (operand.Literal (value.Bool true)) else (if no_word then Ok (operand.Literal (value.Bool false)) else Err (fault.Syntax at))) ≡ Ok v → PlainValue with_params v
truth_plain with_params true no_word at v e = let same : operand.Literal (value.Bool true) ≡ v = cc e in rw (← same) (plain_truth true)
truth_plain with_params false true at v e = let same : operand.Literal (value.Bool false) ≡ v = cc e in rw (← same) (plain_truth false)
truth_plain with_params false false at v e = absurd (cc e)

kind_plain : (with_params : Bool) (at : ℕ) (k : TokenKind) (bytes : List ℕ) (v : Operand) → KindRange k → value_of_kind with_params at k bytes ≡ Ok v → PlainValue with_params v
kind_plain with_params at kind.Word bytes v range e = truth_plain with_params (same_word_as bytes (codes "true")) (same_word_as bytes (codes "false")) at v e
kind_plain with_params at (kind.Integer (Some (pos n))) bytes v range e = let same : operand.Literal (value.Int (pos n)) ≡ v = cc e in rw (← same) (plain_positive n range)
kind_plain with_params at (kind.Integer (Some (negsuc n))) bytes v range e = let same : operand.Literal (value.Int (negsuc n)) ≡ v = cc e in rw (← same) (plain_negative n range)
kind_plain with_params at (kind.Integer None) bytes v range e = absurd (cc e)
kind_plain with_params at (kind.Text chars) bytes v range e = let same : operand.Literal (value.Text chars) ≡ v = cc e in rw (← same) (plain_text chars range)
kind_plain true at (kind.Param (Some n)) bytes v range e = let same : operand.Param n ≡ v = cc e in rw (← same) (plain_param n refl range.0 range.1)
kind_plain false at (kind.Param (Some n)) bytes v range e = absurd (cc e)
kind_plain with_params at (kind.Param None) bytes v range e = absurd (cc e)
kind_plain with_params at kind.Sign bytes v range e = absurd (cc e)
kind_plain with_params at kind.Bad bytes v range e = absurd (cc e)

module _ (with_params : Bool) (text : List ℕ) (tokens : List Token) (are : AreTokens text tokens) where
  found_plain : (at : ℕ) (found : Option Token) (v : Operand) → slice_get tokens at ≡ found → value_of with_params text at found ≡ Ok v → PlainValue with_params v
  found_plain at (Some token) v is e = kind_plain with_params at token.kind (bytes_of text token) v (token_range text token (token_scanned text tokens at token are is)) e
  found_plain at None v is e = absurd (cc e)

  pub plain_value_at : (at : ℕ) (v : Operand) → value_at with_params text tokens at ≡ Ok v → PlainValue with_params v
  unfolding value_at
  plain_value_at at v e = found_plain at (slice_get tokens at) v refl e
