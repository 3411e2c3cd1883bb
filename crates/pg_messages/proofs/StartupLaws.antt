-- The start-up packets: what is spelled is read, and what is read is spelled so.
use Rattle.std.proofs.Common.{◌≡◌, ℕ, zero, suc, ◌+◌, ◌^◌, ◌<◌, ◌≤◌, true, false, not, ltb, List, [], ◌∷◌, ◌++◌, length, take, drop, None, Result, Ok, Err, refl, sym, ap, ap₂, subst, ◌∙◌, append_assoc, arith, inl, inr}
use Rattle.std.specs.Prelude.{◌&&◌, ◌==◌}
use Rattle.std.specs.Int.{w32, from_be_bytes, to_be_bytes}
use Rattle.std.proofs.lemmas.Bool.{cases_Bool, eqb-true, ltb-true, ltb-false, le-ltb, le-leb, and_parts, not-true}
use Rattle.std.proofs.lemmas.List.{append-nil, take_at, drop_at, take-append-drop, take-append-le, drop-append-le, take-take, drop-take, length-append, length-take, length-drop, nil_from_length}
use Rattle.message_shapes.specs.Fields.{◌>>=◌}
use Rattle.message_shapes.specs.Shapes.{size_limit, string_bytes, string, word, unread, zero_ended, ◌&◌}
use Rattle.message_shapes.specs.Spelling.{IsBytes, is_string}
use Rattle.message_shapes.proofs.FieldLaws.{ok_is, guarded_ok, wide32, IsBytes-take, IsBytes-drop}
use Rattle.message_shapes.proofs.ShapeLaws.{IsShape, string_is, word_is}
use Rattle.message_shapes.proofs.ComposedLaws.{StartsWell, both_is, via_is, zero_ended_is}
use Rattle.pg_messages.specs.declared.decoded.Decoded.{Decoded}
use Rattle.pg_messages.specs.declared.decoded.Decoded.TheVariants as decoded
use Rattle.pg_messages.specs.declared.decoded.Why.{Why}
use Rattle.pg_messages.specs.declared.decoded.Why.TheVariants as why
use Rattle.pg_messages.specs.declared.packet.Head.{Head}
use Rattle.pg_messages.specs.declared.packet.Head.TheVariants as head
use Rattle.pg_messages.specs.declared.startup.Startup.{Startup}
use Rattle.pg_messages.specs.declared.startup.Startup.TheVariants as startup
use Rattle.pg_messages.specs.declared.startup.StartupKind.{StartupKind}
use Rattle.pg_messages.specs.declared.startup.StartupKind.TheVariants as kinds
use Rattle.pg_messages.specs.Limits.{protocol_code, startup_limit}
use Rattle.pg_messages.specs.Packet.{packet_of, is_more, is_more_head}
use Rattle.pg_messages.specs.Sides.{formed_at, formed}
use Rattle.pg_messages.specs.Startup.{pair, pair_made, pair_taken, startup_kind, startup_code, startup_form, startup_sent, has_length, coded_head, sized_head, startup_head, last, startup_body, startup_of, startup_packet, startup_layout, startup_bytes, startup_refusal, IsStartup}
use Rattle.pg_messages.proofs.Forms.{IsForm, fields_form, formed_is, sent_is}
use Rattle.pg_messages.proofs.MessageLaws.{packet_takes, packet_kept}
use Rattle.pg_messages.proofs.Lengths.{refusal_none}
use Rattle.pg_messages.proofs.Packets.{is_more_packet}

-- ---- pairs

pair_is : IsShape pair
unfolding pair
pair_is = via_is pair_made pair_taken (word & string) (both_is _ _ word_is string_is) (λ p h. refl)

word_starts : (name a b text : List ℕ) → (not (length name == 0) && is_string name) ≡ true → a ≡ string_bytes name → text ≡ a ++ b → (n : ℕ) × (t : List ℕ) × (text ≡ suc n ∷ t)
unfolding string_bytes
word_starts [] a b text h is all = absurd cc
word_starts (zero ∷ name) a b text h is all =
    let parts = and_parts (not (length (zero ∷ name) == 0)) (is_string (zero ∷ name)) h in
    let some : is_string (zero ∷ name) ≡ true = parts.1 in
    absurd (cc some)
word_starts (suc n ∷ name) a b text h is all = (n, (name ++ 0 ∷ []) ++ b, all ∙ ap (λ (t : List ℕ). t ++ b) is)

pair_starts : StartsWell pair
unfolding pair
pair_starts p text h = word_starts h.0.0 h.2.0 h.2.1 text h.2.3.0 h.2.3.1 h.2.2

pairs_are : IsShape (zero_ended pair)
pairs_are = zero_ended_is _ pair_is pair_starts

-- ---- the rest of a packet

abbrev other : ℕ → Startup
other code = startup.Other code

unread_is : (code : ℕ) → IsForm (formed unread (λ x. startup.Other code))
unfolding formed_at
unread_is code = record {
  takes = λ body m fits e. (tt, ap (λ (x : Startup × List ℕ). x.0) (ok_is (other code, []) (m, []) e), tt);
  again = λ m body h. ap (λ (x : Startup). Ok (x, [])) h.1;
}

form_is : (kind : StartupKind) → IsForm (startup_form kind)
unfolding startup_form
form_is kinds.Start = fields_form _ (formed_is _ _ pairs_are)
form_is (kinds.Other code) = unread_is code

last_ok : (read : Result (Startup × List ℕ) ℕ) (m : Startup) → (read >>= last) ≡ Ok m → read ≡ Ok (m, [])
last_ok (Err left) m e = absurd cc
last_ok (Ok x) m e =
    let g = guarded_ok (length x.1 == 0) (length x.1 + 1) x.0 m e in
    let none : x.1 ≡ [] = nil_from_length x.1 (eqb-true (length x.1) 0 g.0) in
    ap₂ (λ (y : Startup) (r : List ℕ). Ok (y, r)) g.1 none

last_again : (read : Result (Startup × List ℕ) ℕ) (m : Startup) → read ≡ Ok (m, []) → (read >>= last) ≡ Ok m
last_again read m e = rw e refl

rest_again : (kind : StartupKind) (m : Startup) (rest : List ℕ) → (startup_form kind).Spells m rest → startup_body kind rest ≡ Ok m
unfolding startup_body
rest_again kind m rest h = last_again ((startup_form kind).read rest) m ((form_is kind).again m rest h)

rest_takes : (kind : StartupKind) (rest : List ℕ) (m : Startup) → IsBytes rest → startup_body kind rest ≡ Ok m → (startup_form kind).Spells m rest
unfolding startup_body
rest_takes kind rest m fits e = (form_is kind).takes rest m fits (last_ok ((startup_form kind).read rest) m e)

rest_length : (kind : StartupKind) (m : Startup) (rest : List ℕ) → (startup_form kind).Spells m rest → has_length kind (length rest + 8) ≡ true
unfolding startup_form
rest_length kinds.Start m rest h = le-leb 9 (length rest + 8) (omega (arith, ap length h.2.1, length-append h.2.0 (0 ∷ [])))
rest_length (kinds.Other code) m rest h = refl

-- ---- the head

abbrev packet : StartupKind → ℕ → Head StartupKind
packet kind n = head.Packet kind n

head_at : (length_text code_text rest : List ℕ) (n code : ℕ) → length length_text ≡ 4 → length code_text ≡ 4 → from_be_bytes w32 length_text ≡ n → from_be_bytes w32 code_text ≡ code → 8 ≤ n → n ≤ startup_limit → n ≤ 8 + length rest → has_length (startup_kind code) n ≡ true → startup_head (length_text ++ (code_text ++ rest)) ≡ packet (startup_kind code) n
unfolding startup_head
head_at length_text code_text rest n code len_a len_b is_n is_code low high within fits =
    let all = length-append length_text (code_text ++ rest) in
    let parts = length-append code_text rest in
    let there : ltb (length (length_text ++ (code_text ++ rest))) 4 ≡ false = le-ltb _ _ (omega (arith, all)) in
    let not_low : ltb n 8 ≡ false = le-ltb _ _ low in
    let not_high : ltb startup_limit n ≡ false = le-ltb _ _ high in
    let coded : ltb (length (code_text ++ rest)) 4 ≡ false = le-ltb _ _ (omega (arith, parts)) in
    let whole : ltb (length (length_text ++ (code_text ++ rest))) n ≡ false = le-ltb _ _ (omega (arith, all, parts)) in
    rw (there, take_at length_text (code_text ++ rest) 4 len_a, drop_at length_text (code_text ++ rest) 4 len_a, is_n, not_low, not_high, coded, take_at code_text rest 4 len_b, is_code, fits, whole) refl

packet_at : (kind : StartupKind) (m : Startup) (length_text code_text rest more : List ℕ) (n : ℕ) → length length_text ≡ 4 → length code_text ≡ 4 → n ≡ length rest + 8 → startup_body kind rest ≡ Ok m → packet_of startup_body 8 (packet kind n) (((length_text ++ code_text) ++ rest) ++ more) ≡ decoded.Whole m n
packet_at kind m length_text code_text rest more n len_a len_b is read =
    let front = length-append length_text code_text in
    let whole : length ((length_text ++ code_text) ++ rest) ≡ n = omega (arith, length-append (length_text ++ code_text) rest, front) in
    let behind : drop 8 ((length_text ++ code_text) ++ rest) ≡ rest = drop_at (length_text ++ code_text) rest 8 (omega (arith, front)) in
    rw (take_at ((length_text ++ code_text) ++ rest) more n whole, behind, read) refl

spelled_again : (m : Startup) (code : ℕ) (rest more : List ℕ) → code < 2 ^ 32 → (startup_form (startup_kind code)).Spells m rest → length rest + 8 ≤ startup_limit → startup_of (startup_packet code rest ++ more) ≡ decoded.Whole m (length (startup_packet code rest))
unfolding startup_of
spelled_again m code rest more fits is le =
    let n = length rest + 8 in
    let regrouped : startup_packet code rest ++ more ≡ to_be_bytes w32 n ++ (to_be_bytes w32 code ++ (rest ++ more)) = append_assoc (to_be_bytes w32 n ++ to_be_bytes w32 code) rest more ∙ append_assoc (to_be_bytes w32 n) (to_be_bytes w32 code) (rest ++ more) in
    let told = head_at (to_be_bytes w32 n) (to_be_bytes w32 code) (rest ++ more) n code (wide32.len n) (wide32.len code) (wide32.again n (omega arith)) (wide32.again code fits) (omega arith) le (omega (arith, length-append rest more)) (rest_length (startup_kind code) m rest is) in
    let size : length (startup_packet code rest) ≡ n = omega (arith, length-append (to_be_bytes w32 n ++ to_be_bytes w32 code) rest, length-append (to_be_bytes w32 n) (to_be_bytes w32 code), wide32.len n, wide32.len code) in
    let head_is : startup_head (startup_packet code rest ++ more) ≡ packet (startup_kind code) (length (startup_packet code rest)) = ap startup_head regrouped ∙ told ∙ ap (packet (startup_kind code)) (sym size) in
    ap (λ (x : Head StartupKind). packet_of startup_body 8 x (startup_packet code rest ++ more)) head_is
    ∙ packet_at (startup_kind code) m (to_be_bytes w32 n) (to_be_bytes w32 code) rest more (length (startup_packet code rest)) (wide32.len n) (wide32.len code) size (rest_again (startup_kind code) m rest is)

pub startup_again : (m : Startup) (packet more : List ℕ) → IsStartup m packet → startup_of (packet ++ more) ≡ decoded.Whole m (length packet)
startup_again m packet more is = rw is.bytes (spelled_again m is.code is.rest more is.fits is.spelled is.within)

-- what the head of a whole packet tells
record IsCoded (kind : StartupKind) (n : ℕ) (bytes : List ℕ) : Type 0 where
  pub low : 8 ≤ n
  pub high : n ≤ startup_limit
  pub there : n ≤ length bytes
  pub n_is : n ≡ from_be_bytes w32 (take 4 bytes)
  pub kind_is : startup_kind (from_be_bytes w32 (take 4 (drop 4 bytes))) ≡ kind

abbrev bad : Head StartupKind
bad = head.Bad 0 why.Length

abbrev more_head : Head StartupKind
more_head = head.More

packet_is : (a b : StartupKind) (m n : ℕ) → packet a m ≡ packet b n → (a ≡ b) × (m ≡ n)
packet_is a b m n e = (cc, cc)

coded_takes : (at kind : StartupKind) (size n : ℕ) (bytes : List ℕ) → coded_head at size bytes ≡ packet kind n → (at ≡ kind) × (size ≡ n) × (size ≤ length bytes)
coded_takes at kind size n bytes e =
    elim (cases_Bool (has_length at size)) [
      | inl fits ↦ elim (cases_Bool (ltb (length bytes) size)) [
        | inl short ↦ (let no : more_head ≡ packet kind n = rw (fits, short) at e in absurd cc)
        | inr long ↦
            let same = packet_is at kind size n (rw (fits, long) at e) in
            (same.0, same.1, ltb-false (length bytes) size long)
      ]
      | inr other ↦ (let no : bad ≡ packet kind n = rw other at e in absurd cc)
    ]

sized_takes : (size : ℕ) (rest bytes : List ℕ) (kind : StartupKind) (n : ℕ) → sized_head size rest bytes ≡ packet kind n → (8 ≤ size) × (size ≤ startup_limit) × (coded_head (startup_kind (from_be_bytes w32 (take 4 rest))) size bytes ≡ packet kind n)
sized_takes size rest bytes kind n e =
    elim (cases_Bool (ltb size 8)) [
      | inl low ↦ (let no : bad ≡ packet kind n = rw low at e in absurd cc)
      | inr low ↦ elim (cases_Bool (ltb startup_limit size)) [
        | inl high ↦ (let no : bad ≡ packet kind n = rw (low, high) at e in absurd cc)
        | inr high ↦ elim (cases_Bool (ltb (length rest) 4)) [
          | inl short ↦ (let no : more_head ≡ packet kind n = rw (low, high, short) at e in absurd cc)
          | inr long ↦ (ltb-false _ _ low, ltb-false _ _ high, rw (low, high, long) at e)
        ]
      ]
    ]

head_takes : (bytes : List ℕ) (kind : StartupKind) (n : ℕ) → startup_head bytes ≡ packet kind n → IsCoded kind n bytes
unfolding startup_head
head_takes bytes kind n e =
    elim (cases_Bool (ltb (length bytes) 4)) [
      | inl short ↦ (let no : more_head ≡ packet kind n = rw short at e in absurd cc)
      | inr long ↦
          let size = from_be_bytes w32 (take 4 bytes) in
          let sized = sized_takes (from_be_bytes w32 (take 4 bytes)) (drop 4 bytes) bytes kind n (rw long at e) in
          let coded = coded_takes (startup_kind (from_be_bytes w32 (take 4 (drop 4 bytes)))) kind (from_be_bytes w32 (take 4 bytes)) n bytes sized.2 in
          record { low = omega (arith, sized.0, coded.1); high = omega (arith, sized.1, coded.1); there = omega (arith, coded.2, coded.1); n_is = sym coded.1; kind_is = coded.0 }
    ]

eight : (bytes : List ℕ) → take 8 bytes ≡ take 4 bytes ++ take 4 (drop 4 bytes)
eight bytes = sym (take-append-drop 4 (take 8 bytes)) ∙ ap₂ ◌++◌ (take-take 4 8 bytes (omega arith)) (drop-take 4 4 bytes)

-- the first n bytes are the length, the code and the rest
parted : (n : ℕ) (bytes : List ℕ) → IsBytes bytes → 8 ≤ n → n ≤ length bytes → n ≡ from_be_bytes w32 (take 4 bytes) → take n bytes ≡ startup_packet (from_be_bytes w32 (take 4 (drop 4 bytes))) (drop 8 (take n bytes))
parted n bytes fits low there is =
    let four : length (take 4 bytes) ≡ 4 = omega (arith, length-take 4 bytes) in
    let four_more : length (take 4 (drop 4 bytes)) ≡ 4 = omega (arith, length-take 4 (drop 4 bytes), length-drop 4 bytes) in
    let size_text : to_be_bytes w32 n ≡ take 4 bytes = ap (to_be_bytes w32) is ∙ wide32.back (take 4 bytes) four (IsBytes-take 4 bytes fits) in
    let code_text = wide32.back (take 4 (drop 4 bytes)) four_more (IsBytes-take 4 (drop 4 bytes) (IsBytes-drop 4 bytes fits)) in
    let len : length (drop 8 (take n bytes)) + 8 ≡ n = omega (arith, length-drop 8 (take n bytes), length-take n bytes) in
    let head : take 8 (take n bytes) ≡ take 4 bytes ++ take 4 (drop 4 bytes) = take-take 8 n bytes low ∙ eight bytes in
    sym (take-append-drop 8 (take n bytes)) ∙ ap (λ (t : List ℕ). t ++ drop 8 (take n bytes)) (head ∙ ap₂ ◌++◌ (sym size_text ∙ ap (to_be_bytes w32) (sym len)) (sym code_text))

pub startup_takes : (bytes : List ℕ) (m : Startup) (n : ℕ) → IsBytes bytes → startup_of bytes ≡ decoded.Whole m n → (n ≤ length bytes) × IsStartup m (take n bytes)
unfolding startup_of
startup_takes bytes m n fits e =
    let found = packet_takes startup_body 8 (startup_head bytes) bytes m n e in
    let told = head_takes bytes found.0 n found.1 in
    let spelled = rest_takes found.0 (drop 8 (take n bytes)) m (IsBytes-drop 8 (take n bytes) (IsBytes-take n bytes fits)) found.2 in (
      told.there,
      record {
        code = from_be_bytes w32 (take 4 (drop 4 bytes));
        fits = wide32.below (take 4 (drop 4 bytes)) (IsBytes-take 4 (drop 4 bytes) (IsBytes-drop 4 bytes fits));
        rest = drop 8 (take n bytes);
        spelled = subst (λ (k : StartupKind). (startup_form k).Spells m (drop 8 (take n bytes))) (sym told.kind_is) spelled;
        within = omega (arith, told.high, told.low, told.there, length-drop 8 (take n bytes), length-take n bytes);
        bytes = parted n bytes fits told.low told.there told.n_is;
      },
    )

-- ---- what lies behind changes nothing

coded_kept : (at : StartupKind) (size : ℕ) (bytes more : List ℕ) → is_more_head (coded_head at size bytes) ≡ false → coded_head at size (bytes ++ more) ≡ coded_head at size bytes
coded_kept at size bytes more h =
    elim (cases_Bool (has_length at size)) [
      | inl fits ↦ elim (cases_Bool (ltb (length bytes) size)) [
        | inl short ↦ (let no : true ≡ false = rw (fits, short) at h in absurd cc)
        | inr long ↦
            let still : ltb (length (bytes ++ more)) size ≡ false = le-ltb _ _ (omega (arith, ltb-false (length bytes) size long, length-append bytes more)) in
            rw (fits, long, still) refl
      ]
      | inr other ↦ rw other refl
    ]

sized_kept : (size : ℕ) (rest bytes more : List ℕ) → is_more_head (sized_head size rest bytes) ≡ false → sized_head size (rest ++ more) (bytes ++ more) ≡ sized_head size rest bytes
sized_kept size rest bytes more h =
    elim (cases_Bool (ltb size 8)) [
      | inl low ↦ rw low refl
      | inr low ↦ elim (cases_Bool (ltb startup_limit size)) [
        | inl high ↦ rw (low, high) refl
        | inr high ↦ elim (cases_Bool (ltb (length rest) 4)) [
          | inl short ↦ (let no : true ≡ false = rw (low, high, short) at h in absurd cc)
          | inr long ↦
              let there : 4 ≤ length rest = ltb-false (length rest) 4 long in
              let still : ltb (length (rest ++ more)) 4 ≡ false = le-ltb _ _ (omega (arith, there, length-append rest more)) in
              let coded : is_more_head (coded_head (startup_kind (from_be_bytes w32 (take 4 rest))) size bytes) ≡ false = rw (low, high, long) at h in
              rw (low, high, long, still, take-append-le 4 rest more there) (coded_kept (startup_kind (from_be_bytes w32 (take 4 rest))) size bytes more coded)
        ]
      ]
    ]

head_kept : (bytes more : List ℕ) → is_more_head (startup_head bytes) ≡ false → startup_head (bytes ++ more) ≡ startup_head bytes
unfolding startup_head
head_kept bytes more h =
    elim (cases_Bool (ltb (length bytes) 4)) [
      | inl short ↦ (let no : true ≡ false = rw short at h in absurd cc)
      | inr long ↦
          let there : 4 ≤ length bytes = ltb-false (length bytes) 4 long in
          let still : ltb (length (bytes ++ more)) 4 ≡ false = le-ltb _ _ (omega (arith, there, length-append bytes more)) in
          let sized : is_more_head (sized_head (from_be_bytes w32 (take 4 bytes)) (drop 4 bytes) bytes) ≡ false = rw long at h in
          rw (still, long, take-append-le 4 bytes more there, drop-append-le 4 bytes more there) (sized_kept (from_be_bytes w32 (take 4 bytes)) (drop 4 bytes) bytes more sized)
    ]

pub startup_kept : (bytes more : List ℕ) → is_more (startup_of bytes) ≡ false → startup_of (bytes ++ more) ≡ startup_of bytes
unfolding startup_of
startup_kept bytes more h =
    let told : is_more_head (startup_head bytes) ≡ false = sym (is_more_packet startup_body 8 (startup_head bytes) bytes) ∙ h in
    ap (λ (x : Head StartupKind). packet_of startup_body 8 x (bytes ++ more)) (head_kept bytes more told) ∙ packet_kept startup_body 8 (startup_head bytes) bytes more (λ at n is. (head_takes bytes at n is).there)

-- ---- one packet has these bytes

whole_is : (m k : Startup) (a b : ℕ) → decoded.Whole m a ≡ decoded.Whole k b → m ≡ k
whole_is m k a b e = cc

pub startup_one : (m k : Startup) (packet : List ℕ) → IsStartup m packet → IsStartup k packet → m ≡ k
startup_one m k packet a b = whole_is m k _ _ (sym (startup_again m packet [] a) ∙ startup_again k packet [] b)

-- ---- a front of a packet, and bad bytes

more_is : (answer : Decoded Startup) → is_more answer ≡ true → answer ≡ decoded.More
more_is (decoded.Whole packet length) h = absurd cc
more_is decoded.More h = refl
more_is (decoded.Bad place cause) h = absurd cc
more_is decoded.Memory h = absurd cc

abbrev bad_at : ℕ → Why → Decoded Startup
bad_at place cause = decoded.Bad place cause

bad_is : (place : ℕ) (cause : Why) (m : Startup) (n : ℕ) → bad_at place cause ≡ decoded.Whole m n → ⊥
bad_is place cause m n e = cc

behind : (bytes more : List ℕ) (m : Startup) (packet rest : List ℕ) → IsStartup m packet → bytes ++ more ≡ packet ++ rest → is_more (startup_of bytes) ≡ false → startup_of bytes ≡ decoded.Whole m (length packet)
behind bytes more m packet rest is same told = sym (startup_kept bytes more told) ∙ ap startup_of same ∙ startup_again m packet rest is

-- a packet that isn't all there is waited for
pub startup_front : (bytes more : List ℕ) (m : Startup) → IsBytes bytes → 0 < length more → IsStartup m (bytes ++ more) → startup_of bytes ≡ decoded.More
startup_front bytes more m fits missing is =
    elim (cases_Bool (is_more (startup_of bytes))) [
      | inl more_told ↦ more_is (startup_of bytes) more_told
      | inr told ↦
          let whole = behind bytes more m (bytes ++ more) [] is (sym (append-nil (bytes ++ more))) told in
          let within = (startup_takes bytes m (length (bytes ++ more)) fits whole).0 in
          absurd (omega (arith, within, length-append bytes more))
    ]

-- no packet begins with bad bytes, or is a front of them
pub startup_bad : (bytes more : List ℕ) (m : Startup) (packet rest : List ℕ) (place : ℕ) (cause : Why) → startup_of bytes ≡ decoded.Bad place cause → IsStartup m packet → bytes ++ more ≡ packet ++ rest → ⊥
startup_bad bytes more m packet rest place cause bad is same =
    let told : is_more (startup_of bytes) ≡ false = ap is_more bad in
    bad_is place cause m (length packet) (sym bad ∙ behind bytes more m packet rest is same told)

-- ---- what the encoder writes

sending : (m : Startup) → (startup_sent m).good ≡ true → length (startup_layout m) ≤ size_limit → (startup_form (startup_kind (startup_code (startup_sent m).kind))).Spells m (startup_layout m)
unfolding startup_form startup_sent
sending (startup.Start pairs) h small = sent_is _ startup.Start pairs_are pairs _ refl h small
sending (startup.Other code) h small =
    let other : (code == protocol_code) ≡ false = not-true (code == protocol_code) (and_parts (not (code == protocol_code)) (ltb code (2 ^ 32)) h).0 in
    rw other (tt, refl, tt)

code_fits : (m : Startup) → (startup_sent m).good ≡ true → startup_code (startup_sent m).kind < 2 ^ 32
unfolding startup_sent
code_fits (startup.Start pairs) h = omega arith
code_fits (startup.Other code) h = ltb-true code (2 ^ 32) (and_parts (not (code == protocol_code)) (ltb code (2 ^ 32)) h).1

pub startup_written : (m : Startup) → startup_refusal m ≡ None → IsStartup m (startup_bytes m)
startup_written m h =
    let fits = refusal_none (startup_sent m).good (length (startup_layout m) + 8) startup_limit h in
    record {
      code = startup_code (startup_sent m).kind;
      fits = code_fits m fits.0;
      rest = startup_layout m;
      spelled = sending m fits.0 (omega (arith, fits.1));
      within = fits.1;
      bytes = refl;
    }

-- ---- bounds

pub startup_least : (m : Startup) (n : ℕ) (bytes : List ℕ) → IsStartup m (take n bytes) → 8 ≤ n
startup_least m n bytes is =
    omega (arith, ap length is.bytes, length-take n bytes, length-append (to_be_bytes w32 (length is.rest + 8) ++ to_be_bytes w32 is.code) is.rest, length-append (to_be_bytes w32 (length is.rest + 8)) (to_be_bytes w32 is.code), wide32.len (length is.rest + 8), wide32.len is.code)

coded_more : (at : StartupKind) (size : ℕ) (bytes : List ℕ) → is_more_head (coded_head at size bytes) ≡ true → length bytes < size
coded_more at size bytes h =
    elim (cases_Bool (has_length at size)) [
      | inl fits ↦ elim (cases_Bool (ltb (length bytes) size)) [
        | inl short ↦ ltb-true (length bytes) size short
        | inr long ↦ (let no : false ≡ true = rw (fits, long) at h in absurd cc)
      ]
      | inr other ↦ (let no : false ≡ true = rw other at h in absurd cc)
    ]

sized_more : (size : ℕ) (rest bytes : List ℕ) → length bytes ≤ length rest + 4 → is_more_head (sized_head size rest bytes) ≡ true → length bytes < startup_limit
sized_more size rest bytes parts h =
    elim (cases_Bool (ltb size 8)) [
      | inl low ↦ (let no : false ≡ true = rw low at h in absurd cc)
      | inr low ↦ elim (cases_Bool (ltb startup_limit size)) [
        | inl high ↦ (let no : false ≡ true = rw (low, high) at h in absurd cc)
        | inr high ↦ elim (cases_Bool (ltb (length rest) 4)) [
          | inl short ↦ omega (arith, ltb-true (length rest) 4 short)
          | inr long ↦
              let coded = coded_more (startup_kind (from_be_bytes w32 (take 4 rest))) size bytes (rw (low, high, long) at h) in
              omega (arith, coded, ltb-false startup_limit size high)
        ]
      ]
    ]

pub startup_more : (bytes : List ℕ) → is_more (startup_of bytes) ≡ true → length bytes < startup_limit
unfolding startup_of startup_head
startup_more bytes h =
    let told : is_more_head (startup_head bytes) ≡ true = sym (is_more_packet startup_body 8 (startup_head bytes) bytes) ∙ h in
    elim (cases_Bool (ltb (length bytes) 4)) [
      | inl short ↦ omega (arith, ltb-true (length bytes) 4 short)
      | inr long ↦ sized_more (from_be_bytes w32 (take 4 bytes)) (drop 4 bytes) bytes (omega (arith, length-drop 4 bytes)) (rw long at told)
    ]
