-- How tokens stand in a text whose words and signs are known.
use Rattle.std.proofs.Common.{◌≡◌, ℕ, zero, suc, ◌+◌, ◌-◌, ◌<◌, ◌≤◌, ◌==◌, ◌&&◌, Bool, true, false, List, [], ◌∷◌, ◌++◌, drop, get_or, slice_get, Some, length, refl, sym, ap, ◌∙◌, arith, add-one}
use Rattle.std.specs.List.{list_all, prefix_len, slice_range}
use Rattle.std.proofs.Math.Seq.{drop-append_seam, take-append_seam}
use Rattle.std.proofs.lemmas.List.{drop-drop}
use Rattle.std.proofs.lemmas.Bool.Decides.{nat_tests}
use Rattle.word_tokens.specs.declared.token.Token.{Token}
use Rattle.word_tokens.specs.declared.token.TokenKind.{TokenKind}
use Rattle.word_tokens.specs.declared.token.TokenKind.TheVariants as kind
use Rattle.word_tokens.specs.Words.{starts_word, continues_word, is_word_of}
use Rattle.word_tokens.specs.Tokens.{is_white, blank_end, run_end, scanned, scanned_at, IfBad, StandAt, bytes_of}
use Rattle.word_tokens.proofs.BlankLaws.{blank_white, blank_stop}

-- the byte at a place
pub first_at : (text : List ℕ) (b x : ℕ) (post : List ℕ) → drop b text ≡ x ∷ post → (get_or text b 0 ≡ x) × (b < length text)
first_at [] zero x post is = absurd (cc is)
first_at [] (suc b) x post is = absurd (cc is)
first_at (y ∷ text) zero x post is = (cc is, omega arith)
first_at (y ∷ text) (suc b) x post is = let h = first_at text b x post is in (h.0, omega (arith, h.1))

pub drop_past : (text : List ℕ) (b : ℕ) (xs post : List ℕ) → drop b text ≡ xs ++ post → drop (b + length xs) text ≡ post
drop_past text b xs post is = sym (drop-drop (length xs) b text) ∙ (ap (drop (length xs)) is ∙ drop-append_seam xs post)

pub slice_past : (text : List ℕ) (b : ℕ) (xs post : List ℕ) → drop b text ≡ xs ++ post → slice_range text b (b + length xs) ≡ xs
slice_past text b xs post is =
    let size : (b + length xs) - b ≡ length xs = omega arith in
    rw (size, is) (take-append_seam xs post)

-- a byte that begins a word is no blank
pub starts_plain : (x : ℕ) → starts_word x ≡ true → (is_white x ≡ false) × ((x == 45) ≡ false)
starts_plain x h = (grind (arith, nat_tests), grind (arith, nat_tests))

pub starts_on : (x : ℕ) → starts_word x ≡ true → continues_word x ≡ true
starts_on x h = grind (arith, nat_tests)

-- no word goes on there
abbrev pub EndsWord : List ℕ → Type 0
EndsWord post = prefix_len continues_word post ≡ 0

pub both_true : (a b : Bool) → (a && b) ≡ true → (a ≡ true) × (b ≡ true)
both_true true true h = (refl, refl)
both_true true false h = absurd (cc h)
both_true false b h = absurd (cc h)

pub prefix_word : (word post : List ℕ) → list_all continues_word word ≡ true → EndsWord post → prefix_len continues_word (word ++ post) ≡ length word
prefix_word [] post all ends = ends
prefix_word (x ∷ word) post all ends =
    let parts : (continues_word x ≡ true) × (list_all continues_word word ≡ true) = both_true (continues_word x) (list_all continues_word word) all in
    rw parts.0 (omega (arith, prefix_word word post parts.1 ends))

pub scanned_word : (text : List ℕ) (b : ℕ) → starts_word (get_or text b 0) ≡ true → scanned_at text b ≡ scanned kind.Word (run_end continues_word text b)
unfolding scanned_at
scanned_word text b h = rw h refl

scanned_open : (text : List ℕ) (b : ℕ) → get_or text b 0 ≡ 40 → scanned_at text b ≡ scanned kind.Sign (b + 1)
unfolding scanned_at
scanned_open text b h = rw h refl

scanned_close : (text : List ℕ) (b : ℕ) → get_or text b 0 ≡ 41 → scanned_at text b ≡ scanned kind.Sign (b + 1)
unfolding scanned_at
scanned_close text b h = rw h refl

-- a token of this kind, and these are its bytes
pub record TokenIs (text : List ℕ) (tokens : List Token) (k : ℕ) (kind : TokenKind) (piece : List ℕ) : Type 0 where
  pub token : Token
  pub found : slice_get tokens k ≡ Some token
  pub is_kind : token.kind ≡ kind
  pub spells : bytes_of text token ≡ piece

-- the tokens from one on stand from a place on, behind its blanks
pub record Stands (text : List ℕ) (tokens : List Token) (k b : ℕ) : Type 0 where
  pub within : k ≤ length tokens
  pub stand : StandAt text (blank_end text b) (drop k tokens)

-- what a token and those behind it are
split_at : (tokens : List Token) (k : ℕ) (t : Token) (ts : List Token) → drop k tokens ≡ t ∷ ts → (slice_get tokens k ≡ Some t) × (k < length tokens) × (drop (suc k) tokens ≡ ts)
split_at [] zero t ts is = absurd (cc is)
split_at [] (suc k) t ts is = absurd (cc is)
split_at (y ∷ tokens) zero t ts is = (cc is, omega arith, cc is)
split_at (y ∷ tokens) (suc k) t ts is = let h = split_at tokens k t ts is in (h.0, omega (arith, h.1), h.2)

-- no fault
abbrev pub IsGood : TokenKind → Type 0
IsGood kind.Bad = ⊥
IsGood _ = Unit {0}

good_rest : (k : TokenKind) (X Y : Type 0) → IsGood k → IfBad k X Y → Y
good_rest kind.Bad X Y good rest = absurd good
good_rest kind.Word X Y good rest = rest
good_rest (kind.Integer n) X Y good rest = rest
good_rest (kind.Text t) X Y good rest = rest
good_rest (kind.Param n) X Y good rest = rest
good_rest kind.Sign X Y good rest = rest

-- a token that is known is the next one
pub token_next : (text : List ℕ) (tokens : List Token) (k b : ℕ) (kind : TokenKind) (piece post : List ℕ) (ts : List Token) → drop k tokens ≡ ts → IsGood kind → drop b text ≡ piece ++ post → b < length text → scanned_at text b ≡ scanned kind (b + length piece) → StandAt text b ts → TokenIs text tokens k kind piece × Stands text tokens (k + 1) (b + length piece)
token_next text tokens k b kind piece post [] split good is within scan stand = absurd (omega (arith, within, stand))
token_next text tokens k b kind piece post (t ∷ ts) split good is within scan stand =
    let parts = split_at tokens k t ts split in
    let is_kind : t.kind ≡ kind = rw (stand.1, scan) refl in
    let start : t.start ≡ b = rw stand.1 refl in
    let end : t.end ≡ b + length piece = rw (stand.1, scan) refl in
    let rest : StandAt text (blank_end text t.end) ts = good_rest t.kind (ts ≡ []) (StandAt text (blank_end text t.end) ts) (rw is_kind good) stand.2 in (
      record { token = t; found = parts.0; is_kind = is_kind; spells = rw (start, end) (slice_past text b piece post is) },
      record { within = omega (arith, parts.1); stand = rw (add-one, parts.2) (rw end at rest) },
    )

blank_here : (text : List ℕ) (b x : ℕ) (post : List ℕ) → drop b text ≡ x ∷ post → is_white x ≡ false → (x == 45) ≡ false → blank_end text b ≡ b
blank_here text b x post is white dash = let h = first_at text b x post is in blank_stop text b (rw h.0 white) (rw (h.0, dash) refl)

pub token_here : (text : List ℕ) (tokens : List Token) (k b x : ℕ) (kind : TokenKind) (xs post : List ℕ) → IsGood kind → drop b text ≡ (x ∷ xs) ++ post → is_white x ≡ false → (x == 45) ≡ false → scanned_at text b ≡ scanned kind (b + length (x ∷ xs)) → Stands text tokens k b → TokenIs text tokens k kind (x ∷ xs) × Stands text tokens (k + 1) (b + length (x ∷ xs))
token_here text tokens k b x kind xs post good is white dash scan s =
    token_next text tokens k b kind (x ∷ xs) post (drop k tokens) refl good is (first_at text b x (xs ++ post) is).1 scan (rw (blank_here text b x (xs ++ post) is white dash) at s.stand)

-- a word, a bracket or a space that stands at a place
pub word_stands : (text : List ℕ) (tokens : List Token) (k b : ℕ) (word post : List ℕ) → drop b text ≡ word ++ post → is_word_of word ≡ true → EndsWord post → Stands text tokens k b → TokenIs text tokens k kind.Word word × Stands text tokens (k + 1) (b + length word)
word_stands text tokens k b [] post is word ends s = absurd (cc word)
word_stands text tokens k b (x ∷ xs) post is word ends s =
    let parts = both_true (starts_word x) (list_all continues_word xs) word in
    let plain = starts_plain x parts.0 in
    let first = first_at text b x (xs ++ post) is in
    let all : list_all continues_word (x ∷ xs) ≡ true = rw (starts_on x parts.0, parts.1) refl in
    let size : run_end continues_word text b ≡ b + length (x ∷ xs) = rw (is, prefix_word (x ∷ xs) post all ends) refl in
    token_here text tokens k b x kind.Word xs post tt is plain.0 plain.1 (rw size at (scanned_word text b (rw first.0 parts.0))) s

pub open_stands : (text : List ℕ) (tokens : List Token) (k b : ℕ) (post : List ℕ) → drop b text ≡ 40 ∷ post → Stands text tokens k b → TokenIs text tokens k kind.Sign (40 ∷ []) × Stands text tokens (k + 1) (b + 1)
open_stands text tokens k b post is s = token_here text tokens k b 40 kind.Sign [] post tt is refl refl (scanned_open text b (first_at text b 40 post is).0) s

pub close_stands : (text : List ℕ) (tokens : List Token) (k b : ℕ) (post : List ℕ) → drop b text ≡ 41 ∷ post → Stands text tokens k b → TokenIs text tokens k kind.Sign (41 ∷ []) × Stands text tokens (k + 1) (b + 1)
close_stands text tokens k b post is s = token_here text tokens k b 41 kind.Sign [] post tt is refl refl (scanned_close text b (first_at text b 41 post is).0) s

pub space_stands : (text : List ℕ) (tokens : List Token) (k b : ℕ) (post : List ℕ) → drop b text ≡ 32 ∷ post → Stands text tokens k b → Stands text tokens k (b + 1)
space_stands text tokens k b post is s =
    let same : blank_end text b ≡ blank_end text (b + 1) = blank_white text b (rw (first_at text b 32 post is).0 refl) in
    record { within = s.within; stand = rw same at s.stand }
