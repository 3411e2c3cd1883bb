-- A message behind its type byte: the head that was written is read, and the head that is read was written so.
use Rattle.std.proofs.Common.{◌≡◌, ℕ, suc, ◌+◌, ◌^◌, ◌<◌, ◌≤◌, Bool, true, false, ltb, List, ◌∷◌, ◌++◌, length, take, drop, Option, Some, None, Result, Ok, Err, refl, sym, ap, ap₂, ◌∙◌, append_assoc, arith, inl, inr}
use Rattle.std.specs.Prelude.{◌||◌, ◌⊎◌}
use Rattle.std.specs.Int.{w32, from_be_bytes, to_be_bytes}
use Rattle.std.proofs.lemmas.Bool.{ltb-true, ltb-false, le-ltb, lt-ltb, cases_Bool}
use Rattle.std.proofs.lemmas.List.{take_at, drop_at, take-append-drop, take-append-le, take-take, length-append, length-take, length-drop}
use Rattle.pg_messages.specs.declared.decoded.Decoded.TheVariants as decoded
use Rattle.pg_messages.specs.declared.decoded.Why.{Why}
use Rattle.pg_messages.specs.declared.decoded.Why.TheVariants as why
use Rattle.pg_messages.specs.declared.packet.Head.{Head}
use Rattle.pg_messages.specs.declared.packet.Head.TheVariants as head
use Rattle.pg_messages.specs.Packet.{message_head, sized_head, decoded_as, packet_of, is_more_head}
use Rattle.message_shapes.specs.Spelling.{IsBytes}
use Rattle.pg_messages.specs.Spelling.{message}
use Rattle.message_shapes.proofs.FieldLaws.{wide32, IsBytes-take, IsBytes-drop}

or_false : (a b : Bool) → (a || b) ≡ false → (a ≡ false) × (b ≡ false)
or_false true b h = absurd cc
or_false false b h = (refl, h)

abbrev packet : {K : Type 0} → K → ℕ → Head K
packet at n = head.Packet at n

abbrev no_length : {K : Type 0} → K → Head K
no_length kind = head.Bad 1 why.Length

abbrev more_of : {K : Type 0} → K → Head K
more_of kind = head.More

-- ---- what is written is read

head_at : {K : Type 0} (most : ℕ) (kind : K) (text rest : List ℕ) (size : ℕ) → length text ≡ 4 → from_be_bytes w32 text ≡ size → 4 ≤ size → size ≤ most → size ≤ length text + length rest → message_head most (Some kind) (text ++ rest) ≡ head.Packet kind (size + 1)
unfolding message_head
head_at most kind text rest size len is low le within =
    let all = length-append text rest in
    let there : ltb (length (text ++ rest)) 4 ≡ false = le-ltb _ _ (omega (arith, all)) in
    let not_low : ltb size 4 ≡ false = le-ltb _ _ low in
    let not_high : ltb most size ≡ false = le-ltb _ _ le in
    let whole : ltb (length (text ++ rest)) size ≡ false = le-ltb _ _ (omega (arith, all)) in
    rw (there, take_at text rest 4 len, is, not_low, not_high, whole) refl

packet_at : {K T : Type 0} (body_of : K → List ℕ → Result T ℕ) (byte : ℕ) (at : K) (text body rest : List ℕ) (n : ℕ) → length text ≡ 4 → n ≡ length body + 4 + 1 → packet_of body_of 5 (head.Packet at n) ((byte ∷ (text ++ body)) ++ rest) ≡ decoded_as n (body_of at body)
packet_at body_of byte at text body rest n len is =
    let whole : length (byte ∷ (text ++ body)) ≡ n = omega (arith, length-append text body) in
    let behind : drop 5 (byte ∷ (text ++ body)) ≡ body = drop_at (byte ∷ text) body 5 (ap suc len) in
    rw (take_at (byte ∷ (text ++ body)) rest n whole, behind) refl

-- The body may be followed by anything.
pub message_read : {K T : Type 0} (body_of : K → List ℕ → Result T ℕ) (most byte : ℕ) (kind : Option K) (at : K) (body rest : List ℕ) → kind ≡ Some at → length body + 4 ≤ most → most < 2 ^ 32 → packet_of body_of 5 (message_head most kind ((to_be_bytes w32 (length body + 4) ++ body) ++ rest)) (message byte body ++ rest) ≡ decoded_as (length (message byte body)) (body_of at body)
message_read body_of most byte kind at body rest is le lt =
    let size = length body + 4 in
    let regrouped = append_assoc (to_be_bytes w32 size) body rest in
    let len = wide32.len size in
    let told = head_at most at (to_be_bytes w32 size) (body ++ rest) size len (wide32.again size (omega arith)) (omega arith) le (omega (arith, len, length-append body rest)) in
    let n : length (message byte body) ≡ size + 1 = omega (arith, length-append (to_be_bytes w32 size) body, len) in
    let head_is : message_head most kind ((to_be_bytes w32 size ++ body) ++ rest) ≡ head.Packet at (length (message byte body)) = ap₂ (message_head most) is regrouped ∙ told ∙ ap (packet at) (sym n) in
    ap (λ (x : Head _). packet_of body_of 5 x (message byte body ++ rest)) head_is ∙ packet_at body_of byte at (to_be_bytes w32 size) body rest (length (message byte body)) len n

pub message_again : {K T : Type 0} (body_of : K → List ℕ → Result T ℕ) (most byte : ℕ) (kind : Option K) (at : K) (m : T) (body rest : List ℕ) → kind ≡ Some at → body_of at body ≡ Ok m → length body + 4 ≤ most → most < 2 ^ 32 → packet_of body_of 5 (message_head most kind ((to_be_bytes w32 (length body + 4) ++ body) ++ rest)) (message byte body ++ rest) ≡ decoded.Whole m (length (message byte body))
message_again body_of most byte kind at m body rest is read le lt = message_read body_of most byte kind at body rest is le lt ∙ ap (decoded_as (length (message byte body))) read

-- ---- what is read was written

-- the message that the head told stands at the front
pub record IsHeaded {K : Type 0} (most byte : ℕ) (kind : Option K) (bytes : List ℕ) (at : K) (n : ℕ) : Type 0 where
  pub body : List ℕ
  pub is : kind ≡ Some at
  pub behind : drop 5 (take n bytes) ≡ body
  pub within : n ≤ length bytes
  pub small : length body + 4 ≤ most
  pub spelled : take n bytes ≡ message byte body
  pub body_fits : IsBytes body

pub record IsSized (most n : ℕ) (rest : List ℕ) : Type 0 where
  pub size : ℕ
  pub n_is : n ≡ size + 1
  pub low : 4 ≤ size
  pub high : size ≤ most
  pub there : size ≤ length rest
  pub size_is : size ≡ from_be_bytes w32 (take 4 rest)

kind_is : {K : Type 0} (a b : K) (m n : ℕ) → head.Packet a m ≡ head.Packet b n → (a ≡ b) × (m ≡ n)
kind_is a b m n e = (cc, cc)

sized_takes : {K : Type 0} (most : ℕ) (kind at : K) (rest : List ℕ) (size n : ℕ) → sized_head most kind rest size ≡ head.Packet at n → (kind ≡ at) × (n ≡ size + 1) × (4 ≤ size) × (size ≤ most) × (size ≤ length rest)
sized_takes {K = K} most kind at rest size n e =
    elim (cases_Bool (ltb size 4)) [
      | inl low ↦ (let no : no_length kind ≡ head.Packet at n = rw low at e in absurd cc)
      | inr low ↦ elim (cases_Bool (ltb most size)) [
        | inl high ↦ (let no : no_length kind ≡ head.Packet at n = rw (low, high) at e in absurd cc)
        | inr high ↦ elim (cases_Bool (ltb (length rest) size)) [
          | inl short ↦ (let no : more_of kind ≡ head.Packet at n = rw (low, high, short) at e in absurd cc)
          | inr short ↦
              let same = kind_is kind at (size + 1) n (rw (low, high, short) at e) in
              (same.0, sym same.1, ltb-false _ _ low, ltb-false _ _ high, ltb-false _ _ short)
        ]
      ]
    ]

decoded_takes : {T : Type 0} (k : ℕ) (read : Result T ℕ) (m : T) (n : ℕ) → decoded_as k read ≡ decoded.Whole m n → (k ≡ n) × (read ≡ Ok m)
decoded_takes k (Ok x) m n e = (cc, cc)
decoded_takes k (Err left) m n e = absurd cc

head_takes : {K : Type 0} (most : ℕ) (kind : Option K) (at : K) (rest : List ℕ) (n : ℕ) → message_head most kind rest ≡ head.Packet at n → (kind ≡ Some at) × IsSized most n rest
unfolding message_head
head_takes most None at rest n e = absurd cc
head_takes {K = K} most (Some kind) at rest n e =
    elim (cases_Bool (ltb (length rest) 4)) [
      | inl short ↦ (let no : more_of kind ≡ head.Packet at n = rw short at e in absurd cc)
      | inr long ↦
          let sized : sized_head most kind rest (from_be_bytes w32 (take 4 rest)) ≡ head.Packet at n = rw long at e in
          let is = sized_takes most kind at rest (from_be_bytes w32 (take 4 rest)) n sized in
          let some : K → Option K = λ k. Some k in
          (ap some is.0, record { size = from_be_bytes w32 (take 4 rest); n_is = is.1; low = is.2; high = is.3; there = is.4; size_is = refl })
    ]

pub packet_takes : {K T : Type 0} (body_of : K → List ℕ → Result T ℕ) (skipped : ℕ) (x : Head K) (bytes : List ℕ) (m : T) (n : ℕ) → packet_of body_of skipped x bytes ≡ decoded.Whole m n → (at : K) × (x ≡ head.Packet at n) × (body_of at (drop skipped (take n bytes)) ≡ Ok m)
packet_takes body_of skipped head.More bytes m n e = absurd cc
packet_takes body_of skipped (head.Bad place cause) bytes m n e = absurd cc
packet_takes {K = K} body_of skipped (head.Packet at k) bytes m n e =
    let is = decoded_takes k (body_of at (drop skipped (take k bytes))) m n e in
    (at, ap (packet at) is.0, rw (← is.0) is.1)

front_more : (byte size n : ℕ) (rest : List ℕ) → n ≡ size + 1 → take n (byte ∷ rest) ≡ byte ∷ take size rest
front_more byte size n rest is = let next : n ≡ suc size = omega arith in rw next refl

-- the body of a message of which the head told the length
sized_body : (size : ℕ) (rest : List ℕ) → IsBytes rest → 4 ≤ size → size ≤ length rest → size ≡ from_be_bytes w32 (take 4 rest) → take size rest ≡ to_be_bytes w32 (length (drop 4 (take size rest)) + 4) ++ drop 4 (take size rest)
sized_body size rest fits low there is =
    let four : length (take 4 rest) ≡ 4 = omega (arith, length-take 4 rest) in
    let front : to_be_bytes w32 size ≡ take 4 rest = ap (to_be_bytes w32) is ∙ wide32.back (take 4 rest) four (IsBytes-take 4 rest fits) in
    let len : length (drop 4 (take size rest)) + 4 ≡ size = omega (arith, length-drop 4 (take size rest), length-take size rest) in
    sym (take-append-drop 4 (take size rest)) ∙ ap (λ (t : List ℕ). t ++ drop 4 (take size rest)) (take-take 4 size rest low ∙ sym front ∙ ap (to_be_bytes w32) (sym len))

pub headed : {K : Type 0} (most byte : ℕ) (kind : Option K) (rest : List ℕ) (at : K) (n : ℕ) → IsBytes rest → message_head most kind rest ≡ head.Packet at n → IsHeaded most byte kind (byte ∷ rest) at n
headed most byte kind rest at n fits e =
    let told = head_takes most kind at rest n e in
    let sized = told.1 in
    let front = front_more byte sized.size n rest sized.n_is in
    let len : length (drop 4 (take sized.size rest)) + 4 ≡ sized.size = omega (arith, sized.low, sized.there, length-drop 4 (take sized.size rest), length-take sized.size rest) in
    record {
      body = drop 4 (take sized.size rest);
      is = told.0;
      behind = ap (drop 5) front;
      within = omega (arith, sized.n_is, sized.there);
      small = omega (arith, len, sized.high);
      spelled = front ∙ ap (λ (t : List ℕ). byte ∷ t) (sized_body sized.size rest fits sized.low sized.there sized.size_is);
      body_fits = IsBytes-drop 4 (take sized.size rest) (IsBytes-take sized.size rest fits);
    }

-- ---- bad heads

abbrev bad : {K : Type 0} → ℕ → Why → Head K
bad place cause = head.Bad place cause

bad_is : {K : Type 0} (p q : ℕ) (c d : Why) → bad {K = K} p c ≡ bad {K = K} q d → (p ≡ q) × (c ≡ d)
bad_is p q c d e = (cc, cc)

-- the length is outside of the bounds
pub record IsOutside (most : ℕ) (rest : List ℕ) (size : ℕ) : Type 0 where
  pub there : 4 ≤ length rest
  pub size_is : size ≡ from_be_bytes w32 (take 4 rest)
  pub outside : (size < 4) ⊎ (most < size)

-- what a bad head has
abbrev pub BadHead : {K : Type 0} → ℕ → Option K → List ℕ → ℕ → Why → Type 0
BadHead {K = K} most kind rest place cause =
    (kind ≡ None) × (place ≡ 0) × (cause ≡ why.TypeByte)
    ⊎ (at : K) × (size : ℕ) × (kind ≡ Some at) × IsOutside most rest size × (place ≡ 1) × (cause ≡ why.Length)

sized_bad : {K : Type 0} (most : ℕ) (kind : K) (rest : List ℕ) (size place : ℕ) (cause : Why) → sized_head most kind rest size ≡ bad place cause → ((size < 4) ⊎ (most < size)) × (place ≡ 1) × (cause ≡ why.Length)
sized_bad {K = K} most kind rest size place cause e =
    elim (cases_Bool (ltb size 4)) [
      | inl low ↦ (let same = bad_is {K = K} 1 place why.Length cause (rw low at e) in (inl (ltb-true size 4 low), sym same.0, sym same.1))
      | inr low ↦ elim (cases_Bool (ltb most size)) [
        | inl high ↦ (let same = bad_is {K = K} 1 place why.Length cause (rw (low, high) at e) in (inr (ltb-true most size high), sym same.0, sym same.1))
        | inr high ↦ elim (cases_Bool (ltb (length rest) size)) [
          | inl short ↦ (let no : more_of kind ≡ bad place cause = rw (low, high, short) at e in absurd cc)
          | inr short ↦ (let no : packet kind (size + 1) ≡ bad place cause = rw (low, high, short) at e in absurd cc)
        ]
      ]
    ]

pub head_bad : {K : Type 0} (most : ℕ) (kind : Option K) (rest : List ℕ) (place : ℕ) (cause : Why) → message_head most kind rest ≡ bad place cause → BadHead most kind rest place cause
unfolding message_head
head_bad {K = K} most None rest place cause e = (let same = bad_is {K = K} 0 place why.TypeByte cause e in inl (refl, sym same.0, sym same.1))
head_bad {K = K} most (Some kind) rest place cause e =
    elim (cases_Bool (ltb (length rest) 4)) [
      | inl short ↦ (let no : more_of kind ≡ bad place cause = rw short at e in absurd cc)
      | inr long ↦
          let is = sized_bad most kind rest (from_be_bytes w32 (take 4 rest)) place cause (rw long at e) in
          inr (kind, from_be_bytes w32 (take 4 rest), refl, record { there = ltb-false (length rest) 4 long; size_is = refl; outside = is.0 }, is.1, is.2)
    ]

-- a length outside of the bounds is bad
outside_bad : {K : Type 0} (most : ℕ) (at : K) (text rest : List ℕ) (size : ℕ) → length text ≡ 4 → from_be_bytes w32 text ≡ size → (size < 4) ⊎ (most < size) → message_head most (Some at) (text ++ rest) ≡ head.Bad 1 why.Length
unfolding message_head
outside_bad most at text rest size len is outside =
    let there : ltb (length (text ++ rest)) 4 ≡ false = le-ltb _ _ (omega (arith, length-append text rest, len)) in
    elim (cases_Bool (ltb size 4)) [
      | inl low ↦ rw (there, take_at text rest 4 len, is, low) refl
      | inr low ↦
          let least = ltb-false size 4 low in
          let high : ltb most size ≡ true = elim outside [ inl less ↦ absurd (omega (arith, less, least)) | inr more ↦ lt-ltb most size more ] in
          rw (there, take_at text rest 4 len, is, low, high) refl
    ]

pub bad_length : {K : Type 0} (most : ℕ) (kind : Option K) (at : K) (rest : List ℕ) (size : ℕ) → kind ≡ Some at → size < 2 ^ 32 → (size < 4) ⊎ (most < size) → message_head most kind (to_be_bytes w32 size ++ rest) ≡ head.Bad 1 why.Length
bad_length most kind at rest size is fits outside =
    ap (λ k. message_head most k (to_be_bytes w32 size ++ rest)) is ∙ outside_bad most at (to_be_bytes w32 size) rest size (wide32.len size) (wide32.again size fits) outside

-- ---- what lies behind a packet changes nothing

sized_kept : {K : Type 0} (most : ℕ) (kind : K) (rest more : List ℕ) (size : ℕ) → is_more_head (sized_head most kind rest size) ≡ false → sized_head most kind (rest ++ more) size ≡ sized_head most kind rest size
sized_kept most kind rest more size h =
    elim (cases_Bool (ltb size 4)) [
      | inl low ↦ rw low refl
      | inr low ↦ elim (cases_Bool (ltb most size)) [
        | inl high ↦ rw (low, high) refl
        | inr high ↦ elim (cases_Bool (ltb (length rest) size)) [
          | inl short ↦ (let no : true ≡ false = rw (low, high, short) at h in absurd cc)
          | inr short ↦
              let there = ltb-false (length rest) size short in
              let still : ltb (length (rest ++ more)) size ≡ false = le-ltb _ _ (omega (arith, there, length-append rest more)) in
              rw (low, high, short, still) refl
        ]
      ]
    ]

pub head_kept : {K : Type 0} (most : ℕ) (kind : Option K) (rest more : List ℕ) → is_more_head (message_head most kind rest) ≡ false → message_head most kind (rest ++ more) ≡ message_head most kind rest
unfolding message_head
head_kept most None rest more h = refl
head_kept most (Some kind) rest more h =
    elim (cases_Bool (ltb (length rest) 4)) [
      | inl short ↦ (let no : true ≡ false = rw short at h in absurd cc)
      | inr long ↦
          let there : 4 ≤ length rest = ltb-false (length rest) 4 long in
          let still : ltb (length (rest ++ more)) 4 ≡ false = le-ltb _ _ (omega (arith, there, length-append rest more)) in
          let sized : is_more_head (sized_head most kind rest (from_be_bytes w32 (take 4 rest))) ≡ false = rw long at h in
          let front = take-append-le 4 rest more there in
          rw (still, long, front) (sized_kept most kind rest more (from_be_bytes w32 (take 4 rest)) sized)
    ]

-- a packet that is there has its bytes within those at hand
pub head_within : {K : Type 0} (most : ℕ) (kind : Option K) (byte : ℕ) (rest : List ℕ) (at : K) (n : ℕ) → message_head most kind rest ≡ head.Packet at n → n ≤ length (byte ∷ rest)
head_within most kind byte rest at n e =
    let sized = (head_takes most kind at rest n e).1 in
    omega (arith, sized.n_is, sized.there)

pub packet_kept : {K T : Type 0} (body_of : K → List ℕ → Result T ℕ) (skipped : ℕ) (x : Head K) (bytes more : List ℕ) → ((at : K) (n : ℕ) → x ≡ head.Packet at n → n ≤ length bytes) → packet_of body_of skipped x (bytes ++ more) ≡ packet_of body_of skipped x bytes
packet_kept body_of skipped head.More bytes more within = refl
packet_kept body_of skipped (head.Bad place cause) bytes more within = refl
packet_kept body_of skipped (head.Packet at n) bytes more within =
    ap (λ (t : List ℕ). decoded_as n (body_of at (drop skipped t))) (take-append-le n bytes more (within at n refl))

-- ---- what is waited for is short

sized_more : {K : Type 0} (most : ℕ) (kind : K) (rest : List ℕ) (size : ℕ) → is_more_head (sized_head most kind rest size) ≡ true → length rest < most
sized_more most kind rest size h =
    elim (cases_Bool (ltb size 4)) [
      | inl low ↦ (let no : false ≡ true = rw low at h in absurd cc)
      | inr low ↦ elim (cases_Bool (ltb most size)) [
        | inl high ↦ (let no : false ≡ true = rw (low, high) at h in absurd cc)
        | inr high ↦ elim (cases_Bool (ltb (length rest) size)) [
          | inl short ↦ omega (arith, ltb-true (length rest) size short, ltb-false most size high)
          | inr long ↦ (let no : false ≡ true = rw (low, high, long) at h in absurd cc)
        ]
      ]
    ]

pub head_more : {K : Type 0} (most : ℕ) (kind : Option K) (rest : List ℕ) → 4 ≤ most → is_more_head (message_head most kind rest) ≡ true → length rest < most
unfolding message_head
head_more most None rest le h = absurd cc
head_more most (Some kind) rest le h =
    elim (cases_Bool (ltb (length rest) 4)) [
      | inl short ↦ omega (arith, ltb-true (length rest) 4 short)
      | inr long ↦ sized_more most kind rest (from_be_bytes w32 (take 4 rest)) (rw long at h)
    ]
