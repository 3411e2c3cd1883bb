-- A text that is printed in quotes, and what stands between them.
use Rattle.std.proofs.Common.{◌≡◌, ℕ, ◌+◌, ◌-◌, ◌==◌, Bool, true, false, not, if◌then◌else◌, List, [], ◌∷◌, ◌++◌, drop, length, get_or, flat_map, Some, refl, ap, ◌∙◌, append_assoc, arith}
use Rattle.std.specs.List.{list_all}
use Rattle.std.proofs.lemmas.Bool.Decides.{nat_tests}
use Rattle.std.proofs.lemmas.List.{length-append}
use Rattle.word_tokens.specs.Tokens.{closing_from, closing_at, unquoted, scanned, scanned_at}
use Rattle.word_tokens.specs.declared.token.Token.{Token}
use Rattle.word_tokens.specs.declared.token.TokenKind.TheVariants as kind
use Rattle.word_tokens.proofs.StandLaws.{TokenIs, both_true, first_at, drop_past, slice_past, token_here}
use Rattle.query_printer.specs.Printing.{byte_text, quoted}
use Rattle.query_parser.proofs.Heres.{Here}
use Rattle.query_parser.proofs.Printables.{IsQuotable}

closing_quote : (n : ℕ) (post : List ℕ) → (get_or post 0 0 == 39) ≡ false → closing_from n (39 ∷ post) ≡ Some (n + 1)
closing_quote n [] ends = refl
closing_quote n (y ∷ post) ends = rw ends refl

closing_byte : (n x : ℕ) (rest : List ℕ) → (x == 0) ≡ false → (x == 39) ≡ false → closing_from n (x ∷ rest) ≡ closing_from (n + 1) rest
closing_byte n x [] some other = rw other refl
closing_byte n x (y ∷ rest) some other = rw (some, other) refl

unquoted_byte : (x : ℕ) (rest : List ℕ) → (x == 39) ≡ false → unquoted (x ∷ rest) ≡ x ∷ unquoted rest
unquoted_byte x [] other = refl
unquoted_byte x (y ∷ rest) other = rw other refl

not_true : (b : Bool) → not b ≡ true → b ≡ false
not_true true h = absurd (cc h)
not_true false h = refl

-- one byte more before a text that closes
closes_by : (quote : Bool) (n x : ℕ) (rest post : List ℕ) → (x == 39) ≡ quote → (x == 0) ≡ false → ((m : ℕ) → closing_from m (rest ++ 39 ∷ post) ≡ Some (m + length rest + 1)) → closing_from n (((if quote then 39 ∷ 39 ∷ [] else x ∷ []) ++ rest) ++ 39 ∷ post) ≡ Some (n + length ((if quote then 39 ∷ 39 ∷ [] else x ∷ []) ++ rest) + 1)
closes_by true n x rest post is some behind =
    let size : n + 2 + length rest + 1 ≡ n + length (39 ∷ 39 ∷ rest) + 1 = omega arith in
    rw size at (behind (n + 2))
closes_by false n x rest post is some behind =
    let size : n + 1 + length rest + 1 ≡ n + length (x ∷ rest) + 1 = omega arith in
    rw (closing_byte n x (rest ++ 39 ∷ post) some is) (rw size at (behind (n + 1)))

-- what stands between the quotes ends behind the closing one
closes : (n : ℕ) (bytes post : List ℕ) → IsQuotable bytes → (get_or post 0 0 == 39) ≡ false → closing_from n (flat_map byte_text bytes ++ 39 ∷ post) ≡ Some (n + length (flat_map byte_text bytes) + 1)
closes n [] post all ends = closing_quote n post ends ∙ ap Some (omega arith)
closes n (x ∷ bytes) post all ends =
    let parts = both_true (not (x == 0)) (list_all (λ byte. not (byte == 0)) bytes) all in
    closes_by (x == 39) n x (flat_map byte_text bytes) post refl (not_true (x == 0) parts.0) (λ m. closes m bytes post parts.1 ends)

spells_by : (quote : Bool) (x : ℕ) (rest : List ℕ) → (x == 39) ≡ quote → unquoted ((if quote then 39 ∷ 39 ∷ [] else x ∷ []) ++ rest) ≡ x ∷ unquoted rest
spells_by true x rest is = let quote : x ≡ 39 = grind (arith, nat_tests) in rw quote refl
spells_by false x rest is = unquoted_byte x rest is

-- it spells the text that was printed
spells : (bytes : List ℕ) → unquoted (flat_map byte_text bytes) ≡ bytes
spells [] = refl
spells (x ∷ bytes) = rw (spells_by (x == 39) x (flat_map byte_text bytes) refl, spells bytes) refl

closing_here : (text : List ℕ) (b n : ℕ) (inner post : List ℕ) → drop b text ≡ inner ++ 39 ∷ post → closing_from b (inner ++ 39 ∷ post) ≡ Some n → closing_at text b ≡ Some n
unfolding closing_at
closing_here text b n inner post is closed = rw is closed

scanned_quoted : (text : List ℕ) (b : ℕ) (bytes post : List ℕ) → IsQuotable bytes → (get_or post 0 0 == 39) ≡ false → drop b text ≡ 39 ∷ (flat_map byte_text bytes ++ 39 ∷ post) → scanned_at text b ≡ scanned (kind.Text bytes) (b + length (39 ∷ (flat_map byte_text bytes ++ 39 ∷ [])))
unfolding scanned_at
scanned_quoted text b bytes post all ends is =
    let inner = flat_map byte_text bytes in
    let first = (first_at text b 39 (inner ++ 39 ∷ post) is).0 in
    let is' = drop_past text b (39 ∷ []) (inner ++ 39 ∷ post) is in
    let closed = closing_here text (b + 1) (b + 1 + length inner + 1) inner post is' (closes (b + 1) bytes post all ends) in
    let before : b + 1 + length inner + 1 - 1 ≡ b + 1 + length inner = omega arith in
    let size : b + 1 + length inner + 1 ≡ b + length (39 ∷ (inner ++ 39 ∷ [])) = omega (arith, length-append inner (39 ∷ [])) in
    rw (first, closed, before, slice_past text (b + 1) inner (39 ∷ post) is', spells bytes, size) refl

module _ (text : List ℕ) (tokens : List Token) where
  pub quoted_here : (k : ℕ) (bytes post : List ℕ) → IsQuotable bytes → (get_or post 0 0 == 39) ≡ false → Here text tokens k (quoted bytes ++ post) → TokenIs text tokens k (kind.Text bytes) (39 ∷ (flat_map byte_text bytes ++ 39 ∷ [])) × Here text tokens (k + 1) post
  quoted_here k bytes post all ends h =
      let inner = flat_map byte_text bytes in
      let left : drop h.place text ≡ 39 ∷ (inner ++ 39 ∷ post) = h.left ∙ simp append_assoc in
      let whole : drop h.place text ≡ (39 ∷ (inner ++ 39 ∷ [])) ++ post = left ∙ simp append_assoc in
      let t = token_here text tokens k h.place 39 (kind.Text bytes) (inner ++ 39 ∷ []) post tt whole refl refl (scanned_quoted text h.place bytes post all ends left) h.stands in
      (t.0, record { place = h.place + length (39 ∷ (inner ++ 39 ∷ [])); left = drop_past text h.place (39 ∷ (inner ++ 39 ∷ [])) post whole; stands = t.1 })
