-- What was read of a body is the answer on its packet.
use Rattle.std.proofs.Common.{◌≡◌, ℕ, Bool, true, false, List, take, drop, Result, Ok, Err, refl, ap, subst}
use Rattle.std.specs.Result.{is_ok}
use Rattle.pg_messages.specs.declared.decoded.Decoded.{Decoded}
use Rattle.pg_messages.specs.declared.decoded.Decoded.TheVariants as decoded
use Rattle.message_shapes.specs.declared.fields.Fault.{Fault}
use Rattle.message_shapes.specs.declared.fields.Fault.TheVariants as fault
use Rattle.message_shapes.specs.Fields.{ReadsAs}
use Rattle.pg_messages.specs.declared.packet.Head.{Head}
use Rattle.pg_messages.specs.declared.packet.Head.TheVariants as head
use Rattle.pg_messages.specs.Packet.{Answers, IfWhole, IfMemory, TakesMemory, decoded_as, decoded_from, packet_of, is_more, is_more_head, is_whole}

pub answers_decoded : {T : Type 0} (n : ℕ) (result : Result T Fault) (read : Result T ℕ) → ReadsAs (λ x. x) result read → Answers (decoded_from n result) (decoded_as n read)
answers_decoded n (Ok x) read h = ap (decoded_as n) h
answers_decoded n (Err (fault.Before left)) read h = ap (decoded_as n) h
answers_decoded n (Err fault.Memory) read h = tt

is_more_decoded : {T : Type 0} (n : ℕ) (read : Result T ℕ) → is_more (decoded_as n read) ≡ false
is_more_decoded n (Ok x) = refl
is_more_decoded n (Err left) = refl

pub is_more_packet : {K T : Type 0} (body_of : K → List ℕ → Result T ℕ) (skipped : ℕ) (x : Head K) (bytes : List ℕ) → is_more (packet_of body_of skipped x bytes) ≡ is_more_head x
is_more_packet body_of skipped head.More bytes = refl
is_more_packet body_of skipped (head.Bad place cause) bytes = refl
is_more_packet body_of skipped (head.Packet kind n) bytes = is_more_decoded n (body_of kind (drop skipped (take n bytes)))

pub whole_from : {T : Type 0} (P : T → ℕ → Type 0) (result read : Decoded T) → Answers result read → ((m : T) (n : ℕ) → read ≡ decoded.Whole m n → P m n) → IfWhole result P
whole_from P (decoded.Whole m n) read h found = found m n h
whole_from P decoded.More read h found = tt
whole_from P (decoded.Bad place cause) read h found = tt
whole_from P decoded.Memory read h found = tt

pub answers_same : {T : Type 0} (result read expected : Decoded T) → Answers result read → read ≡ expected → Answers result expected
answers_same result read expected h e = subst (Answers result) e h

-- where a body takes memory, so may its packet
pub memory_decoded : {T : Type 0} (n : ℕ) (result : Result T Fault) (takes : Bool) → TakesMemory result takes → IfMemory (decoded_from n result) (takes ≡ true)
memory_decoded n (Ok x) takes h = tt
memory_decoded n (Err (fault.Before left)) takes h = tt
memory_decoded n (Err fault.Memory) takes h = h

whole_decoded : {T : Type 0} (n : ℕ) (read : Result T ℕ) → is_ok read ≡ true → is_whole (decoded_as n read) ≡ true
whole_decoded n (Ok x) h = refl
whole_decoded n (Err left) h = absurd cc

-- where memory runs out in a body that is read, the packet is whole
pub sound_decoded : {T : Type 0} (n : ℕ) (result : Result T Fault) (read : Result T ℕ) → TakesMemory result (is_ok read) → IfMemory (decoded_from n result) (is_whole (decoded_as n read) ≡ true)
sound_decoded n (Ok x) read h = tt
sound_decoded n (Err (fault.Before left)) read h = tt
sound_decoded n (Err fault.Memory) read h = whole_decoded n read h

pub takes_any : {T : Type 0} (result : Result T Fault) → TakesMemory result true
takes_any (Ok x) = tt
takes_any (Err (fault.Before left)) = tt
takes_any (Err fault.Memory) = refl
