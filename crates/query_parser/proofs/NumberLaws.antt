-- The digits that print a number, and the number that they spell.
use Rattle.std.proofs.Common.{◌≡◌, ℕ, suc, ◌+◌, ◌-◌, ◌*◌, ◌^◌, ◌<◌, ◌≤◌, ◌==◌, Bool, true, false, if◌then◌else◌, List, [], ◌∷◌, ◌++◌, drop, length, get_or, fold, decimal, Some, pos, negsuc, nat_lt, nat_le, refl, ◌∙◌, arith}
use Rattle.std.specs.Char.{is_ascii_digit, digit_value}
use Rattle.std.specs.List.{prefix_len}
use Rattle.std.specs.Str.Parse.{AllDigits, digits_value_after}
use Rattle.std.proofs.lemmas.Bool.Decides.{nat_tests}
use Rattle.std.proofs.lemmas.Fmt.{decimal_is_IsNumeral, first_decimal}
use Rattle.std.proofs.lemmas.Str.{digit_value_digit}
use Rattle.std.proofs.lemmas.Str.Parse.{digit_from_value}
use Rattle.word_tokens.specs.Words.{continues_word, starts_word}
use Rattle.word_tokens.specs.Tokens.{is_white, run_end, blank_end, number_of, integer_of, parameter_limit, parameter_of, scanned, integer_at, parameter_at, scanned_at}
use Rattle.word_tokens.specs.declared.token.TokenKind.TheVariants as kind
use Rattle.word_tokens.specs.declared.token.Token.{Token}
use Rattle.word_tokens.proofs.BlankLaws.{blank_stop}
use Rattle.word_tokens.proofs.StandLaws.{EndsWord, TokenIs, first_at, drop_past, slice_past, token_next, token_here}
use Rattle.query_parser.proofs.Heres.{Here}

-- a digit, and nothing else
pub record IsDigit (c : ℕ) : Type 0 where
  pub digit : is_ascii_digit c ≡ true
  pub no_word : starts_word c ≡ false
  pub no_blank : is_white c ≡ false
  pub no_dash : (c == 45) ≡ false

digit_of : (c : ℕ) → digit_value c < 10 → IsDigit c
digit_of c h =
    let r = digit_from_value c h in
    record { digit = grind (arith, nat_tests); no_word = grind (arith, nat_tests); no_blank = grind (arith, nat_tests); no_dash = grind (arith, nat_tests) }

digit_continues : (c : ℕ) → continues_word c ≡ false → is_ascii_digit c ≡ false
digit_continues c h = grind (arith, nat_tests)

ended : (b : Bool) (rest : ℕ) → (if b then 1 + rest else 0) ≡ 0 → b ≡ false
ended true rest none = absurd (omega (arith, none))
ended false rest none = refl

no_digits : (post : List ℕ) → EndsWord post → prefix_len is_ascii_digit post ≡ 0
no_digits [] ends = refl
no_digits (c ∷ post) ends = rw (digit_continues c (ended (continues_word c) (prefix_len continues_word post) ends)) refl

prefix_digits : (ds post : List ℕ) → AllDigits 10 ds → EndsWord post → prefix_len is_ascii_digit (ds ++ post) ≡ length ds
prefix_digits [] post all ends = no_digits post ends
prefix_digits (c ∷ ds) post all ends = rw (digit_of c all.0).digit (omega (arith, prefix_digits ds post all.1 ends))

number_after : (n : ℕ) (ds : List ℕ) → AllDigits 10 ds → fold (λ m digit. m * 10 + (digit - 48)) n ds ≡ digits_value_after 10 n ds
number_after n [] all = refl
number_after n (c ∷ ds) all =
    let same : n * 10 + (c - 48) ≡ n * 10 + digit_value c = omega (arith, digit_value_digit c (digit_from_value c all.0)) in
    rw same (number_after (n * 10 + digit_value c) ds all.1)

pub number_decimal : (n : ℕ) → n < 2 ^ 64 → number_of (decimal n) ≡ n
number_decimal n small = let is = decimal_is_IsNumeral n small in number_after 0 (decimal n) is.0.1 ∙ is.1

positive_number : (n : ℕ) → n < 2 ^ 63 → integer_of false (decimal n) ≡ Some (pos n)
positive_number n small =
    let below : nat_lt n (2 ^ 63) ≡ true = grind (arith, nat_tests) in
    rw (number_decimal n (omega arith), below) refl

negative_number : (n : ℕ) → n < 2 ^ 63 → integer_of true (decimal (suc n)) ≡ Some (negsuc n)
negative_number n small =
    let below : nat_le (suc n) (2 ^ 63) ≡ true = grind (arith, nat_tests) in
    rw (number_decimal (suc n) (omega arith), below) refl

parameter_number : (n : ℕ) → n ≤ parameter_limit → parameter_of (decimal n) ≡ Some n
parameter_number n small =
    let below : nat_le n parameter_limit ≡ true = grind (arith, nat_tests) in
    rw (number_decimal n (omega arith), below) refl

digits_end : (text : List ℕ) (at : ℕ) (ds post : List ℕ) → AllDigits 10 ds → EndsWord post → drop at text ≡ ds ++ post → run_end is_ascii_digit text at ≡ at + length ds
digits_end text at ds post all ends is = rw (is, prefix_digits ds post all ends) refl

integer_scan : (negative : Bool) (text : List ℕ) (at : ℕ) (ds post : List ℕ) → AllDigits 10 ds → EndsWord post → drop at text ≡ ds ++ post → integer_at negative text at ≡ scanned (kind.Integer (integer_of negative ds)) (at + length ds)
integer_scan negative text at ds post all ends is = rw (digits_end text at ds post all ends is, slice_past text at ds post is) refl

parameter_scan : (text : List ℕ) (at : ℕ) (ds post : List ℕ) → AllDigits 10 ds → EndsWord post → drop (at + 1) text ≡ ds ++ post → parameter_at text at ≡ scanned (kind.Param (parameter_of ds)) (at + 1 + length ds)
parameter_scan text at ds post all ends is = rw (digits_end text (at + 1) ds post all ends is, slice_past text (at + 1) ds post is) refl

scanned_digits : (text : List ℕ) (b c : ℕ) (ds post : List ℕ) → AllDigits 10 (c ∷ ds) → EndsWord post → drop b text ≡ (c ∷ ds) ++ post → scanned_at text b ≡ scanned (kind.Integer (integer_of false (c ∷ ds))) (b + length (c ∷ ds))
unfolding scanned_at
scanned_digits text b c ds post all ends is =
    let first = (first_at text b c (ds ++ post) is).0 in
    let d = digit_of c all.0 in
    rw (first, d.no_word, d.digit) (integer_scan false text b (c ∷ ds) post all ends is)

scanned_negative : (text : List ℕ) (b c : ℕ) (ds post : List ℕ) → AllDigits 10 (c ∷ ds) → EndsWord post → drop b text ≡ 45 ∷ ((c ∷ ds) ++ post) → scanned_at text b ≡ scanned (kind.Integer (integer_of true (c ∷ ds))) (b + length (45 ∷ c ∷ ds))
unfolding scanned_at
scanned_negative text b c ds post all ends is =
    let first = (first_at text b 45 ((c ∷ ds) ++ post) is).0 in
    let is' = drop_past text b (45 ∷ []) ((c ∷ ds) ++ post) is in
    let next = (first_at text (b + 1) c (ds ++ post) is').0 in
    let size : b + 1 + length (c ∷ ds) ≡ b + length (45 ∷ c ∷ ds) = omega arith in
    rw (first, next, (digit_of c all.0).digit) (rw size at (integer_scan true text (b + 1) (c ∷ ds) post all ends is'))

scanned_parameter : (text : List ℕ) (b c : ℕ) (ds post : List ℕ) → 48 < c → AllDigits 10 (c ∷ ds) → EndsWord post → drop b text ≡ 36 ∷ ((c ∷ ds) ++ post) → scanned_at text b ≡ scanned (kind.Param (parameter_of (c ∷ ds))) (b + length (36 ∷ c ∷ ds))
unfolding scanned_at
scanned_parameter text b c ds post some all ends is =
    let first = (first_at text b 36 ((c ∷ ds) ++ post) is).0 in
    let is' = drop_past text b (36 ∷ []) ((c ∷ ds) ++ post) is in
    let next = (first_at text (b + 1) c (ds ++ post) is').0 in
    let size : b + 1 + length (c ∷ ds) ≡ b + length (36 ∷ c ∷ ds) = omega arith in
    let leads : (c == 48) ≡ false = grind (arith, nat_tests) in
    rw (first, next, (digit_of c all.0).digit, leads) (rw size at (parameter_scan text b (c ∷ ds) post all ends is'))

-- no comment begins with a dash before a digit
dash_stands : (text : List ℕ) (b c : ℕ) (rest : List ℕ) → IsDigit c → drop b text ≡ 45 ∷ c ∷ rest → blank_end text b ≡ b
dash_stands text b c rest d is =
    let first = (first_at text b 45 (c ∷ rest) is).0 in
    let next = (first_at text (b + 1) c rest (drop_past text b (45 ∷ []) (c ∷ rest) is)).0 in
    blank_stop text b (rw first refl) (rw (first, next, d.no_dash) refl)

module _ (text : List ℕ) (tokens : List Token) where
  digits_here : (k : ℕ) (ds post : List ℕ) → 0 < length ds → AllDigits 10 ds → EndsWord post → Here text tokens k (ds ++ post) → TokenIs text tokens k (kind.Integer (integer_of false ds)) ds × Here text tokens (k + 1) post
  digits_here k [] post some all ends h = absurd (omega (arith, some))
  digits_here k (c ∷ ds) post some all ends h =
      let d = digit_of c all.0 in
      let t = token_here text tokens k h.place c (kind.Integer (integer_of false (c ∷ ds))) ds post tt h.left d.no_blank d.no_dash (scanned_digits text h.place c ds post all ends h.left) h.stands in
      (t.0, record { place = h.place + length (c ∷ ds); left = drop_past text h.place (c ∷ ds) post h.left; stands = t.1 })

  negative_digits_here : (k : ℕ) (ds post : List ℕ) → 0 < length ds → AllDigits 10 ds → EndsWord post → Here text tokens k (45 ∷ (ds ++ post)) → TokenIs text tokens k (kind.Integer (integer_of true ds)) (45 ∷ ds) × Here text tokens (k + 1) post
  negative_digits_here k [] post some all ends h = absurd (omega (arith, some))
  negative_digits_here k (c ∷ ds) post some all ends h =
      let stops = dash_stands text h.place c (ds ++ post) (digit_of c all.0) h.left in
      let t = token_next text tokens k h.place (kind.Integer (integer_of true (c ∷ ds))) (45 ∷ c ∷ ds) post (drop k tokens) refl tt h.left (first_at text h.place 45 ((c ∷ ds) ++ post) h.left).1 (scanned_negative text h.place c ds post all ends h.left) (rw stops at h.stands.stand) in
      (t.0, record { place = h.place + length (45 ∷ c ∷ ds); left = drop_past text h.place (45 ∷ c ∷ ds) post h.left; stands = t.1 })

  parameter_digits_here : (k : ℕ) (ds post : List ℕ) → 0 < length ds → 48 < get_or ds 0 0 → AllDigits 10 ds → EndsWord post → Here text tokens k (36 ∷ (ds ++ post)) → TokenIs text tokens k (kind.Param (parameter_of ds)) (36 ∷ ds) × Here text tokens (k + 1) post
  parameter_digits_here k [] post some leads all ends h = absurd (omega (arith, some))
  parameter_digits_here k (c ∷ ds) post some leads all ends h =
      let t = token_here text tokens k h.place 36 (kind.Param (parameter_of (c ∷ ds))) (c ∷ ds) post tt h.left refl refl (scanned_parameter text h.place c ds post leads all ends h.left) h.stands in
      (t.0, record { place = h.place + length (36 ∷ c ∷ ds); left = drop_past text h.place (36 ∷ c ∷ ds) post h.left; stands = t.1 })

  -- a number of each kind
  pub positive_here : (k n : ℕ) (post : List ℕ) → n < 2 ^ 63 → EndsWord post → Here text tokens k (decimal n ++ post) → TokenIs text tokens k (kind.Integer (Some (pos n))) (decimal n) × Here text tokens (k + 1) post
  positive_here k n post small ends h =
      let is = decimal_is_IsNumeral n (omega arith) in
      rw (positive_number n small) at (digits_here k (decimal n) post is.0.0 is.0.1 ends h)

  pub negative_here : (k n : ℕ) (post : List ℕ) → n < 2 ^ 63 → EndsWord post → Here text tokens k (45 ∷ (decimal (suc n) ++ post)) → TokenIs text tokens k (kind.Integer (Some (negsuc n))) (45 ∷ decimal (suc n)) × Here text tokens (k + 1) post
  negative_here k n post small ends h =
      let is = decimal_is_IsNumeral (suc n) (omega arith) in
      rw (negative_number n small) at (negative_digits_here k (decimal (suc n)) post is.0.0 is.0.1 ends h)

  pub parameter_here : (k n : ℕ) (post : List ℕ) → 0 < n → n ≤ parameter_limit → EndsWord post → Here text tokens k (36 ∷ (decimal n ++ post)) → TokenIs text tokens k (kind.Param (Some n)) (36 ∷ decimal n) × Here text tokens (k + 1) post
  parameter_here k n post some small ends h =
      let is = decimal_is_IsNumeral n (omega arith) in
      rw (parameter_number n small) at (parameter_digits_here k (decimal n) post is.0.0 (first_decimal n some (omega arith)) is.0.1 ends h)
