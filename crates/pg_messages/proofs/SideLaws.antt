-- The messages of a side: what is spelled is read, and what is read is spelled so. Proved once, of any side.
use Rattle.std.proofs.Common.{subst, ◌-◌, ◌^◌, drop, Result, Err, ◌≡◌, ℕ, suc, ◌+◌, ◌<◌, ◌≤◌, true, false, List, [], ◌∷◌, ◌++◌, length, take, Some, None, Ok, refl, sym, ap, ◌∙◌, arith, inl, inr}
use Rattle.std.specs.Int.{w32, from_be_bytes, to_be_bytes}
use Rattle.std.proofs.lemmas.Bool.{cases_Bool}
use Rattle.std.proofs.lemmas.List.{append-nil, take_at, drop_at, take-append-drop, length-append, length-take}
use Rattle.pg_messages.specs.declared.decoded.Decoded.{Decoded}
use Rattle.pg_messages.specs.declared.decoded.Decoded.TheVariants as decoded
use Rattle.pg_messages.specs.declared.decoded.Why.{Why}
use Rattle.pg_messages.specs.declared.decoded.Why.TheVariants as why
use Rattle.pg_messages.specs.declared.packet.Head.{Head}
use Rattle.pg_messages.specs.declared.packet.Head.TheVariants as head
use Rattle.pg_messages.specs.Packet.{decoded_as, message_head, packet_of, is_more, is_more_head}
use Rattle.message_shapes.specs.Shapes.{size_limit}
use Rattle.pg_messages.specs.Sides.{Side, body_at, head_at, message_at, IsMessage, BreaksBody, IsMalformed}
use Rattle.message_shapes.specs.Spelling.{IsBytes}
use Rattle.pg_messages.specs.Spelling.{message, refusal_of}
use Rattle.message_shapes.proofs.FieldLaws.{ended_ok, ended_again, wide32, IsBytes-take, IsBytes-drop}
use Rattle.pg_messages.proofs.MessageLaws.{message_read, message_again, packet_takes, headed, head_bad, bad_length, head_kept, head_more, head_within, packet_kept}
use Rattle.pg_messages.proofs.Lengths.{refusal_none}
use Rattle.pg_messages.proofs.Packets.{is_more_packet}
use Rattle.pg_messages.proofs.Forms.{HasFields, fields_form, body_broken, body_breaks}

-- what a side is of which the laws hold
pub record IsSide {K T : Type 0} (side : Side K T) : Type 0 where
  pub least : 4 ≤ side.most
  pub most : side.most ≤ size_limit
  pub told : (k : K) → side.kind (side.byte k) ≡ Some k
  pub form : (k : K) → HasFields (side.form k)
  pub sent : (m : T) → (side.sent m).good ≡ true → length (side.sent m).body ≤ size_limit → (side.form (side.sent m).kind).Spells m (side.sent m).body

-- ---- what is spelled is read

body_again : {K T : Type 0} (side : Side K T) (is : IsSide side) (k : K) (m : T) (body : List ℕ) → (side.form k).Spells m body → body_at side k body ≡ Ok m
unfolding body_at
body_again side is k m body spelled = ended_again ((side.form k).read body) m ((fields_form (side.form k) (is.form k)).again m body spelled)

pub again : {K T : Type 0} (side : Side K T) (is : IsSide side) (m : T) (packet rest : List ℕ) → IsMessage side m packet → message_at side (packet ++ rest) ≡ decoded.Whole m (length packet)
unfolding message_at head_at
again side is m packet rest h =
    rw h.bytes (message_again (body_at side) side.most h.byte (side.kind h.byte) h.kind m h.body rest h.told (body_again side is h.kind m h.body h.spelled) h.within (omega (arith, is.most)))

-- ---- what is read is spelled so

body_takes : {K T : Type 0} (side : Side K T) (is : IsSide side) (k : K) (m : T) (body : List ℕ) → IsBytes body → body_at side k body ≡ Ok m → (side.form k).Spells m body
unfolding body_at
body_takes side is k m body fits e = (fields_form (side.form k) (is.form k)).takes body m fits (ended_ok ((side.form k).read body) m e)

pub takes : {K T : Type 0} (side : Side K T) (is : IsSide side) (bytes : List ℕ) (m : T) (n : ℕ) → IsBytes bytes → message_at side bytes ≡ decoded.Whole m n → (n ≤ length bytes) × IsMessage side m (take n bytes)
unfolding message_at head_at
takes side is [] m n fits e = absurd cc
takes side is (byte ∷ rest) m n fits e =
    let found = packet_takes (body_at side) 5 (message_head side.most (side.kind byte) rest) (byte ∷ rest) m n e in
    let h = headed side.most byte (side.kind byte) rest found.0 n (λ i. fits (suc i)) found.1 in
    let t = body_takes side is found.0 m h.body h.body_fits (ap (body_at side found.0) (sym h.behind) ∙ found.2) in
    (h.within, record { byte = byte; kind = found.0; told = h.is; body = h.body; spelled = t; within = h.small; bytes = h.spelled })

-- ---- what lies behind changes nothing

pub kept : {K T : Type 0} (side : Side K T) (bytes more : List ℕ) → is_more (message_at side bytes) ≡ false → message_at side (bytes ++ more) ≡ message_at side bytes
unfolding message_at head_at
kept side [] more h = absurd cc
kept {K = K} side (byte ∷ rest) more h =
    let head = message_head side.most (side.kind byte) rest in
    let told : is_more_head (message_head side.most (side.kind byte) rest) ≡ false = sym (is_more_packet (body_at side) 5 head (byte ∷ rest)) ∙ h in
    let same = head_kept side.most (side.kind byte) rest more told in
    ap (λ (x : Head K). packet_of (body_at side) 5 x (byte ∷ rest ++ more)) same ∙ packet_kept (body_at side) 5 head (byte ∷ rest) more (λ at n e. head_within side.most (side.kind byte) byte rest at n e)

-- ---- one message has these bytes

whole_is : {T : Type 0} (m k : T) (a b : ℕ) → decoded.Whole m a ≡ decoded.Whole k b → m ≡ k
whole_is m k a b e = cc

pub one : {K T : Type 0} (side : Side K T) (is : IsSide side) (m k : T) (packet : List ℕ) → IsMessage side m packet → IsMessage side k packet → m ≡ k
one side is m k packet a b = whole_is m k _ _ (sym (again side is m packet [] a) ∙ again side is k packet [] b)

-- ---- a front of a packet, and bad bytes

more_is : {T : Type 0} (answer : Decoded T) → is_more answer ≡ true → answer ≡ decoded.More
more_is (decoded.Whole packet length) h = absurd cc
more_is decoded.More h = refl
more_is (decoded.Bad place cause) h = absurd cc
more_is decoded.Memory h = absurd cc

abbrev bad_at : {T : Type 0} → ℕ → Why → Decoded T
bad_at place cause = decoded.Bad place cause

bad_is : {T : Type 0} (place : ℕ) (cause : Why) (m : T) (n : ℕ) → bad_at place cause ≡ decoded.Whole m n → ⊥
bad_is place cause m n e = cc

behind : {K T : Type 0} (side : Side K T) (is : IsSide side) (bytes more : List ℕ) (m : T) (packet rest : List ℕ) → IsMessage side m packet → bytes ++ more ≡ packet ++ rest → is_more (message_at side bytes) ≡ false → message_at side bytes ≡ decoded.Whole m (length packet)
behind side is bytes more m packet rest h same told = sym (kept side bytes more told) ∙ ap (message_at side) same ∙ again side is m packet rest h

-- a packet that isn't all there is waited for
pub front : {K T : Type 0} (side : Side K T) (is : IsSide side) (bytes more : List ℕ) (m : T) → IsBytes bytes → 0 < length more → IsMessage side m (bytes ++ more) → message_at side bytes ≡ decoded.More
front side is bytes more m fits missing h =
    elim (cases_Bool (is_more (message_at side bytes))) [
      | inl more_told ↦ more_is (message_at side bytes) more_told
      | inr told ↦
          let whole = behind side is bytes more m (bytes ++ more) [] h (sym (append-nil (bytes ++ more))) told in
          let within = (takes side is bytes m (length (bytes ++ more)) fits whole).0 in
          absurd (omega (arith, within, length-append bytes more))
    ]

-- no packet begins with bad bytes, or is a front of them
pub bad : {K T : Type 0} (side : Side K T) (is : IsSide side) (bytes more : List ℕ) (m : T) (packet rest : List ℕ) (place : ℕ) (cause : Why) → message_at side bytes ≡ decoded.Bad place cause → IsMessage side m packet → bytes ++ more ≡ packet ++ rest → ⊥
bad side is bytes more m packet rest place cause h message same =
    let told : is_more (message_at side bytes) ≡ false = ap is_more h in
    bad_is place cause m (length packet) (sym h ∙ behind side is bytes more m packet rest message same told)

-- ---- what the encoder writes

pub written : {K T : Type 0} (side : Side K T) (is : IsSide side) (m : T) → refusal_of (side.sent m).good (length (side.sent m).body + 4) side.most ≡ None → IsMessage side m (message (side.byte (side.sent m).kind) (side.sent m).body)
written side is m h =
    let fits = refusal_none (side.sent m).good (length (side.sent m).body + 4) side.most h in
    record {
      byte = side.byte (side.sent m).kind;
      kind = (side.sent m).kind;
      told = is.told (side.sent m).kind;
      body = (side.sent m).body;
      spelled = is.sent m fits.0 (omega (arith, fits.1, is.most));
      within = fits.1;
      bytes = refl;
    }

-- ---- bounds

pub least : {K T : Type 0} (side : Side K T) (m : T) (n : ℕ) (bytes : List ℕ) → IsMessage side m (take n bytes) → 5 ≤ n
least side m n bytes h = omega (arith, ap length h.bytes, length-take n bytes, length-append (to_be_bytes w32 (length h.body + 4)) h.body, wide32.len (length h.body + 4))

pub waits : {K T : Type 0} (side : Side K T) (is : IsSide side) (bytes : List ℕ) → is_more (message_at side bytes) ≡ true → length bytes ≤ side.most
unfolding message_at head_at
waits side is [] h = omega (arith, is.least)
waits side is (byte ∷ rest) h =
    let head = message_head side.most (side.kind byte) rest in
    let told : is_more_head (message_head side.most (side.kind byte) rest) ≡ true = sym (is_more_packet (body_at side) 5 head (byte ∷ rest)) ∙ h in
    omega (arith, head_more side.most (side.kind byte) rest is.least told)

-- ---- bad bytes

-- the first four bytes tell the length
told_size : (rest : List ℕ) (size : ℕ) → IsBytes rest → 4 ≤ length rest → size ≡ from_be_bytes w32 (take 4 rest) → (rest ≡ to_be_bytes w32 size ++ drop 4 rest) × (size < 2 ^ 32)
told_size rest size fits there is =
    let four : length (take 4 rest) ≡ 4 = omega (arith, length-take 4 rest, there) in
    let front : to_be_bytes w32 size ≡ take 4 rest = ap (to_be_bytes w32) is ∙ wide32.back (take 4 rest) four (IsBytes-take 4 rest fits) in
    let below = wide32.below (take 4 rest) (IsBytes-take 4 rest fits) in
    (sym (take-append-drop 4 rest) ∙ ap (λ (t : List ℕ). t ++ drop 4 rest) (sym front), omega (arith, below, is))

as_cause : {K T : Type 0} (side : Side K T) (bytes : List ℕ) (place : ℕ) (cause told : Why) → cause ≡ told → IsMalformed side bytes place told → IsMalformed side bytes place cause
as_cause side bytes place cause told same h = subst (IsMalformed side bytes place) (sym same) h

abbrev bad_with : {T : Type 0} → ℕ → Why → Decoded T
bad_with place cause = decoded.Bad place cause

bad_same : {T : Type 0} (p q : ℕ) (c d : Why) → bad_with {T = T} p c ≡ bad_with {T = T} q d → (p ≡ q) × (c ≡ d)
bad_same p q c d e = (cc, cc)

body_malformed : {K T : Type 0} (side : Side K T) (is : IsSide side) (k : K) (body : List ℕ) (left : ℕ) → IsBytes body → body_at side k body ≡ Err left → BreaksBody (side.form k) body left
unfolding body_at
body_malformed side is k body left fits e = body_broken (side.form k) (is.form k) body left fits e

body_refused : {K T : Type 0} (side : Side K T) (is : IsSide side) (k : K) (body : List ℕ) (left : ℕ) → IsBytes body → BreaksBody (side.form k) body left → body_at side k body ≡ Err left
unfolding body_at
body_refused side is k body left fits h = body_breaks (side.form k) (is.form k) body left fits h

body_bad : {T : Type 0} (n : ℕ) (read : Result T ℕ) (place : ℕ) (cause : Why) → decoded_as n read ≡ decoded.Bad place cause → (left : ℕ) × (read ≡ Err left) × (place ≡ n - left) × (cause ≡ why.Body)
body_bad n (Ok x) place cause e = absurd cc
body_bad {T = T} n (Err left) place cause e =
    let same = bad_same {T = T} (n - left) place why.Body cause e in
    (left, refl, sym same.0, sym same.1)

bad_found : {K T : Type 0} (side : Side K T) (is : IsSide side) (byte : ℕ) (rest : List ℕ) (place : ℕ) (cause : Why) → IsBytes (byte ∷ rest) → (found : Head K) → message_head side.most (side.kind byte) rest ≡ found → packet_of (body_at side) 5 found (byte ∷ rest) ≡ decoded.Bad place cause → IsMalformed side (byte ∷ rest) place cause
bad_found side is byte rest place cause fits head.More told e = absurd cc
bad_found {T = T} side is byte rest place cause fits (head.Bad p c) told e =
    let same = bad_same {T = T} p place c cause e in
    elim (head_bad side.most (side.kind byte) rest p c told) [
      | inl h ↦ as_cause side (byte ∷ rest) place cause why.TypeByte (sym same.1 ∙ h.2) (record { byte = byte; rest = rest; bytes_are = refl; told = h.0; place_is = sym same.0 ∙ h.1 })
      | inr h ↦
          let size = told_size rest h.1 (λ i. fits (suc i)) h.3.there h.3.size_is in
          as_cause side (byte ∷ rest) place cause why.Length (sym same.1 ∙ h.5) (record { byte = byte; kind = h.0; size = h.1; rest = drop 4 rest; bytes_are = ap (λ (t : List ℕ). byte ∷ t) size.0; told = h.2; fits = size.1; outside = h.3.outside; place_is = sym same.0 ∙ h.4 })
    ]
bad_found side is byte rest place cause fits (head.Packet at n) told e =
    let h = headed side.most byte (side.kind byte) rest at n (λ i. fits (suc i)) told in
    let b = body_bad n (body_at side at (drop 5 (take n (byte ∷ rest)))) place cause e in
    let read : body_at side at h.body ≡ Err b.0 = ap (body_at side at) (sym h.behind) ∙ b.1 in
    let whole : byte ∷ rest ≡ message byte h.body ++ drop n (byte ∷ rest) = sym (take-append-drop n (byte ∷ rest)) ∙ ap (λ (t : List ℕ). t ++ drop n (byte ∷ rest)) h.spelled in
    let long : length (message byte h.body) ≡ n = ap length (sym h.spelled) ∙ length-take n (byte ∷ rest) ∙ omega (arith, h.within) in
    as_cause side (byte ∷ rest) place cause why.Body b.3 (record { byte = byte; kind = at; body = h.body; rest = drop n (byte ∷ rest); left = b.0; bytes_are = whole; told = h.is; within = h.small; breaks = body_malformed side is at h.body b.0 h.body_fits read; place_is = b.2 ∙ ap (λ (k : ℕ). k - b.0) (sym long) })

type_refused : {K T : Type 0} (most byte : ℕ) (rest : List ℕ) (body_of : K → List ℕ → Result T ℕ) → packet_of body_of 5 (message_head most None rest) (byte ∷ rest) ≡ decoded.Bad 0 why.TypeByte
unfolding message_head
type_refused most byte rest body_of = refl

body_of_packet : (byte : ℕ) (body rest : List ℕ) → IsBytes (message byte body ++ rest) → IsBytes body
body_of_packet byte body rest fits =
    let text = to_be_bytes w32 (length body + 4) in
    let behind : drop 5 (message byte body) ≡ body = drop_at (byte ∷ text) body 5 (ap suc (wide32.len (length body + 4))) in
    let front : take (length (message byte body)) (message byte body ++ rest) ≡ message byte body = take_at (message byte body) rest (length (message byte body)) refl in
    let packet : IsBytes (message byte body) = subst IsBytes front (IsBytes-take (length (message byte body)) (message byte body ++ rest) fits) in
    subst IsBytes behind (IsBytes-drop 5 (message byte body) packet)

pub malformed : {K T : Type 0} (side : Side K T) (is : IsSide side) (bytes : List ℕ) (place : ℕ) (cause : Why) → IsBytes bytes → message_at side bytes ≡ decoded.Bad place cause → IsMalformed side bytes place cause
unfolding message_at head_at
malformed side is [] place cause fits e = absurd cc
malformed side is (byte ∷ rest) place cause fits e =
    bad_found side is byte rest place cause fits (message_head side.most (side.kind byte) rest) refl e

pub refused : {K T : Type 0} (side : Side K T) (is : IsSide side) (bytes : List ℕ) (place : ℕ) (cause : Why) → IsBytes bytes → IsMalformed side bytes place cause → message_at side bytes ≡ decoded.Bad place cause
unfolding message_at head_at
refused side is bytes place why.TypeByte fits h = rw (h.bytes_are, h.place_is, h.told) (type_refused side.most h.byte h.rest (body_at side))
refused side is bytes place why.Length fits h = rw (h.bytes_are, h.place_is, bad_length side.most (side.kind h.byte) h.kind h.rest h.size h.told h.fits h.outside) refl
refused side is bytes place why.Body fits h =
    let packet_fits : IsBytes (message h.byte h.body ++ h.rest) = subst IsBytes h.bytes_are fits in
    let body_fits : IsBytes h.body = body_of_packet h.byte h.body h.rest packet_fits in
    let read : body_at side h.kind h.body ≡ Err h.left = body_refused side is h.kind h.body h.left body_fits h.breaks in
    rw (h.bytes_are, h.place_is, message_read (body_at side) side.most h.byte (side.kind h.byte) h.kind h.body h.rest h.told h.within (omega (arith, is.most)), read) refl
