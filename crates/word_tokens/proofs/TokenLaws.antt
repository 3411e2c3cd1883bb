-- Every text has tokens: each ends behind its beginning, and within the text.
use Rattle.std.proofs.Common.{nat_lt, ◌≡◌, ◌≢◌, ℕ, zero, suc, ◌+◌, ◌<◌, ◌≤◌, ◌==◌, ◌&&◌, not, Bool, true, false, if◌then◌else◌, List, [], ◌∷◌, drop, get_or, slice_index, Option, Some, None, length, refl, arith}
use Rattle.std.specs.Char.{is_ascii_digit}
use Rattle.std.proofs.lemmas.Bool.Decides.{nat_tests}
use Rattle.std.proofs.lemmas.List.{length-drop}
use Rattle.std.proofs.lemmas.List.Sums.{prefix_len-le-length}
use Rattle.word_tokens.specs.declared.token.Token.{Token}
use Rattle.word_tokens.specs.declared.token.TokenKind.{TokenKind}
use Rattle.word_tokens.specs.declared.token.TokenKind.TheVariants as kind
use Rattle.word_tokens.specs.Words.{starts_word, continues_word}
use Rattle.word_tokens.specs.Tokens.{is_white, is_comment_part, blanks, blank_end, run_end, closing_from, closing_at, Scanned, scanned, fault_in, integer_at, quoted_at, parameter_at, is_short_sign, is_long_sign, sign_length, sign_at, scanned_at, token_at, IfBad, StandAt, HasTokens}
use Rattle.word_tokens.proofs.BlankLaws.{some_within}
use Rattle.word_tokens.proofs.StandLaws.{starts_on}

-- a token that begins at a place ends behind it, within the text
Goes : List ℕ → ℕ → Scanned → Type 0
Goes text at found = (at < found.end) × (found.end ≤ length text)

goes_if : (text : List ℕ) (at : ℕ) (b : Bool) (x y : Scanned) → (b ≡ true → Goes text at x) → (b ≡ false → Goes text at y) → Goes text at (if b then x else y)
goes_if text at true x y good bad = good refl
goes_if text at false x y good bad = bad refl

run_some : (p : ℕ → Bool) (text : List ℕ) (at : ℕ) → at < length text → p (get_or text at 0) ≡ true → at < run_end p text at
run_some p [] at within h = absurd (omega (arith, within))
run_some p (x ∷ text) zero within h = rw h (omega arith)
run_some p (x ∷ text) (suc at) within h = let rest = run_some p text at (omega (arith, within)) h in omega (arith, rest)

run_within : (p : ℕ → Bool) (text : List ℕ) (at : ℕ) → at ≤ length text → run_end p text at ≤ length text
run_within p text at within = let h = prefix_len-le-length p (drop at text) in let size = length-drop at text in omega (arith, h, size, within)

goes_fault : (text : List ℕ) (at : ℕ) → at < length text → Goes text at (fault_in text)
unfolding Goes
goes_fault text at within = (within, omega arith)

closing_if : (b : Bool) (at end most : ℕ) (found : Option ℕ) → (found ≡ Some end → (at < end) × (end ≤ most)) → at + 1 ≤ most → (if b then Some (at + 1) else found) ≡ Some end → (at < end) × (end ≤ most)
closing_if true at end most found rest within is = let same : at + 1 ≡ end = cc is in (omega (arith, same), omega (arith, same, within))
closing_if false at end most found rest within is = rest is

closing_pair : (z q r : Bool) (at end most : ℕ) (pair on : Option ℕ) → (pair ≡ Some end → (at < end) × (end ≤ most)) → (on ≡ Some end → (at < end) × (end ≤ most)) → at + 1 ≤ most → (if z then None else (if q then (if r then pair else Some (at + 1)) else on)) ≡ Some end → (at < end) × (end ≤ most)
closing_pair true q r at end most pair on f g within is = absurd (cc is)
closing_pair false true true at end most pair on f g within is = f is
closing_pair false true false at end most pair on f g within is = closing_if true at end most None (λ none. absurd (cc none)) within is
closing_pair false false r at end most pair on f g within is = g is

closing_some : (at : ℕ) (bytes : List ℕ) (end : ℕ) → closing_from at bytes ≡ Some end → (at < end) × (end ≤ at + length bytes)
closing_some at [] end is = absurd (cc is)
closing_some at (x ∷ []) end is = closing_if (x == 39) at end (at + 1) None (λ none. absurd (cc none)) (omega arith) is
closing_some at (x ∷ y ∷ bytes) end is =
    let pair : closing_from (at + 2) bytes ≡ Some end → (at < end) × (end ≤ at + length (x ∷ y ∷ bytes)) = λ h. let r = closing_some (at + 2) bytes end h in (omega (arith, r.0), omega (arith, r.1)) in
    let on : closing_from (at + 1) (y ∷ bytes) ≡ Some end → (at < end) × (end ≤ at + length (x ∷ y ∷ bytes)) = λ h. let r = closing_some (at + 1) (y ∷ bytes) end h in (omega (arith, r.0), omega (arith, r.1)) in
    closing_pair (x == 0) (x == 39) (y == 39) at end (at + length (x ∷ y ∷ bytes)) (closing_from (at + 2) bytes) (closing_from (at + 1) (y ∷ bytes)) pair on (omega arith) is

-- a sign's second byte isn't past the end
sign_sized : (text : List ℕ) (at : ℕ) (long short : Bool) → at < length text → (long ≡ true → at + 1 < length text) → Goes text at (sign_at text at (if long then 2 else (if short then 1 else 0)))
unfolding Goes
sign_sized text at true short within second = (omega arith, omega (arith, second refl))
sign_sized text at false true within second = (omega arith, omega (arith, within))
sign_sized text at false false within second = (omega (arith, within), omega arith)

long_second : (x y : ℕ) → is_long_sign x y ≡ true → y ≢ 0
long_second x y h = grind (arith, nat_tests)

sign_goes : (text : List ℕ) (at : ℕ) → at < length text → Goes text at (sign_at text at (sign_length (slice_index text at) (slice_index text (at + 1))))
sign_goes text at within =
    sign_sized text at (is_long_sign (slice_index text at) (slice_index text (at + 1))) (is_short_sign (slice_index text at)) within (λ h. some_within text (at + 1) (long_second (slice_index text at) (slice_index text (at + 1)) h))

digits_go : (text : List ℕ) (from at : ℕ) (negative : Bool) → from ≤ at → at < length text → is_ascii_digit (slice_index text at) ≡ true → Goes text from (integer_at negative text at)
unfolding Goes
digits_go text from at negative order within digit =
    let h = run_some is_ascii_digit text at within digit in
    (omega (arith, h, order), run_within is_ascii_digit text at (omega (arith, within)))

digit_some : (x : ℕ) → is_ascii_digit x ≡ true → x ≢ 0
digit_some x h = grind (arith, nat_tests)

negative_goes : (text : List ℕ) (at : ℕ) → is_ascii_digit (slice_index text (at + 1)) ≡ true → Goes text at (integer_at true text (at + 1))
negative_goes text at digit = digits_go text at (at + 1) true (omega arith) (some_within text (at + 1) (digit_some (slice_index text (at + 1)) digit)) digit

quoted_goes : (text : List ℕ) (at : ℕ) → at < length text → (found : Option ℕ) → closing_at text (at + 1) ≡ found → Goes text at (quoted_at text at found)
unfolding Goes closing_at
quoted_goes text at within None is = (within, omega arith)
quoted_goes text at within (Some end) is =
    let h = closing_some (at + 1) (drop (at + 1) text) end is in
    let size = length-drop (at + 1) text in
    (omega (arith, h.0), omega (arith, h.1, size, within))

and_first : (a b : Bool) → (a && b) ≡ true → a ≡ true
and_first true b h = refl
and_first false b h = absurd (cc h)

parameter_goes : (text : List ℕ) (at : ℕ) → is_ascii_digit (slice_index text (at + 1)) ≡ true → Goes text at (parameter_at text at)
unfolding Goes
parameter_goes text at digit =
    let within = some_within text (at + 1) (digit_some (slice_index text (at + 1)) digit) in
    (omega arith, run_within is_ascii_digit text (at + 1) (omega (arith, within)))

word_goes : (text : List ℕ) (at : ℕ) → at < length text → starts_word (slice_index text at) ≡ true → Goes text at (scanned kind.Word (run_end continues_word text at))
unfolding Goes
word_goes text at within starts = (run_some continues_word text at within (starts_on (slice_index text at) starts), run_within continues_word text at (omega (arith, within)))

scanned_goes : (text : List ℕ) (at : ℕ) → at < length text → Goes text at (scanned_at text at)
unfolding scanned_at
scanned_goes text at within =
    let first = slice_index text at in
    let next = slice_index text (at + 1) in
    goes_if text at (starts_word first) _ _ (λ h. word_goes text at within h) (λ _. goes_if text at (is_ascii_digit first) _ _ (λ h. digits_go text at at false (omega arith) within h) (λ _. goes_if text at (first == 45) _ _ (λ _. goes_if text at (is_ascii_digit next) _ _ (λ h. negative_goes text at h) (λ _. goes_fault text at within)) (λ _. goes_if text at (first == 39) _ _ (λ _. quoted_goes text at within (closing_at text (at + 1)) refl) (λ _. goes_if text at (first == 36) _ _ (λ _. goes_if text at (is_ascii_digit next && not (next == 48)) _ _ (λ h. parameter_goes text at (and_first (is_ascii_digit next) (not (next == 48)) h)) (λ _. goes_fault text at within)) (λ _. sign_goes text at within)))))

-- a token ends behind its beginning
pub scanned_behind : (text : List ℕ) (at : ℕ) → at < length text → at < (scanned_at text at).end
unfolding Goes
scanned_behind text at within = (scanned_goes text at within).0

comment_blank : (a b : Bool) (bytes : List ℕ) → blanks true bytes ≤ length bytes → blanks false bytes ≤ length bytes → (if a then 1 + blanks true bytes else (if b then 1 + blanks false bytes else 0)) ≤ suc (length bytes)
comment_blank true b bytes h g = omega (arith, h)
comment_blank false true bytes h g = omega (arith, g)
comment_blank false false bytes h g = omega arith

white_blank : (a b : Bool) (bytes : List ℕ) → blanks false bytes ≤ length bytes → blanks true bytes ≤ length bytes → (if a then 1 + blanks false bytes else (if b then 1 + blanks true bytes else 0)) ≤ suc (length bytes)
white_blank true b bytes h g = omega (arith, h)
white_blank false true bytes h g = omega (arith, g)
white_blank false false bytes h g = omega arith

blanks_within : (in_comment : Bool) (bytes : List ℕ) → blanks in_comment bytes ≤ length bytes
blanks_within true [] = omega arith
blanks_within false [] = omega arith
blanks_within true (x ∷ bytes) = comment_blank (is_comment_part x) (x == 10) bytes (blanks_within true bytes) (blanks_within false bytes)
blanks_within false (x ∷ bytes) = white_blank (is_white x) (x == 45 && slice_index bytes 0 == 45) bytes (blanks_within false bytes) (blanks_within true bytes)

pub blank_within : (text : List ℕ) (at : ℕ) → at ≤ length text → blank_end text at ≤ length text
unfolding blank_end
blank_within text at within = let h = blanks_within false (drop at text) in let size = length-drop at text in omega (arith, h, size, within)

-- what stands from a place on
record Stand (text : List ℕ) (at : ℕ) : Type 0 where
  tokens : List Token
  stand : StandAt text at tokens

-- a fault is the last
behind : (kind : TokenKind) (text : List ℕ) (next : ℕ) → Stand text next → (ts : List Token) × IfBad kind (ts ≡ []) (StandAt text next ts)
behind kind.Bad text next rest = ([], refl)
behind kind.Word text next rest = (rest.tokens, rest.stand)
behind (kind.Integer n) text next rest = (rest.tokens, rest.stand)
behind (kind.Text t) text next rest = (rest.tokens, rest.stand)
behind (kind.Param n) text next rest = (rest.tokens, rest.stand)
behind kind.Sign text next rest = (rest.tokens, rest.stand)

stand_next : (text : List ℕ) (at : ℕ) → at < length text → Stand text (blank_end text (scanned_at text at).end) → Stand text at
stand_next text at within rest =
    let kept = behind (scanned_at text at).kind text (blank_end text (scanned_at text at).end) rest in
    record { tokens = token_at text at ∷ kept.0; stand = (within, refl, kept.1) }

pub blank_behind : (text : List ℕ) (at : ℕ) → at ≤ blank_end text at
unfolding blank_end
blank_behind text at = omega arith

at_end : (text : List ℕ) (at : ℕ) → at ≤ length text → length text ≤ at → Stand text at
at_end text at within end = record { tokens = []; stand = omega (arith, within, end) }

below_true : (k n : ℕ) → nat_lt k n ≡ true → k < n
below_true k n h = grind (arith, nat_tests)

below_false : (k n : ℕ) → nat_lt k n ≡ false → n ≤ k
below_false k n h = grind (arith, nat_tests)

stand_if : (text : List ℕ) (at : ℕ) (b : Bool) → nat_lt at (length text) ≡ b → at ≤ length text → ((next : ℕ) → at < next → next ≤ length text → Stand text next) → Stand text at
unfolding Goes
stand_if text at true is within on =
    let inside = below_true at (length text) is in
    let goes = scanned_goes text at inside in
    let order = blank_behind text (scanned_at text at).end in
    stand_next text at inside (on (blank_end text (scanned_at text at).end) (omega (arith, goes.0, order)) (blank_within text (scanned_at text at).end goes.1))
stand_if text at false is within on = at_end text at within (below_false at (length text) is)

stand_from : (n : ℕ) (text : List ℕ) (at : ℕ) → at ≤ length text → length text ≤ at + n → Stand text at
stand_from zero text at within enough = at_end text at within (omega (arith, enough))
stand_from (suc n) text at within enough = stand_if text at (nat_lt at (length text)) refl within (λ next later inside. stand_from n text next inside (omega (arith, enough, later)))

pub has_tokens : (text : List ℕ) → HasTokens text
has_tokens text =
    let first = blank_within text 0 (omega arith) in
    let s = stand_from (length text) text (blank_end text 0) first (omega arith) in
    record { tokens = s.tokens; are_tokens = record { stand = s.stand } }
