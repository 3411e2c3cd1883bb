-- The messages of a client are a side.
use Rattle.std.proofs.Common.{◌≡◌, ℕ, ◌≤◌, true, List, ◌++◌, Some, None, length, take, refl, arith}
use Rattle.message_shapes.specs.Shapes.{size_limit}
use Rattle.message_shapes.specs.Spelling.{IsBytes}
use Rattle.message_shapes.proofs.ShapeLaws.{string_is, nothing_is}
use Rattle.pg_messages.specs.Front.{front_form, front_sent, front_side, front_of, front_bytes, front_refusal, IsFront}
use Rattle.pg_messages.specs.Packet.{is_more}
use Rattle.pg_messages.specs.Limits.{front_limit}
use Rattle.pg_messages.specs.declared.decoded.Decoded.TheVariants as decoded
use Rattle.pg_messages.specs.declared.front.Front.{Front}
use Rattle.pg_messages.specs.declared.front.Front.TheVariants as front
use Rattle.pg_messages.specs.declared.front.FrontKind.{FrontKind}
use Rattle.pg_messages.specs.declared.front.FrontKind.TheVariants as kinds
use Rattle.pg_messages.proofs.Forms.{HasFields, formed_is, sent_is}
use Rattle.pg_messages.proofs.SideLaws as side
use Rattle.pg_messages.proofs.SideLaws.{IsSide}

laws : (k : FrontKind) → HasFields (front_form k)
unfolding front_form
laws kinds.Query = formed_is _ _ string_is
laws kinds.Terminate = formed_is _ _ nothing_is

told : (k : FrontKind) → front_side.kind (front_side.byte k) ≡ Some k
unfolding front_side
told kinds.Query = refl
told kinds.Terminate = refl

sending : (m : Front) → (front_sent m).good ≡ true → length (front_sent m).body ≤ size_limit → (front_form (front_sent m).kind).Spells m (front_sent m).body
unfolding front_form front_sent
sending (front.Query text) = sent_is _ _ string_is text _ refl
sending front.Terminate = sent_is _ _ nothing_is tt _ refl

pub front_is : IsSide front_side
unfolding front_side
front_is = record { least = omega arith; most = omega arith; told = told; form = laws; sent = sending }

-- ---- the laws of a side

pub front_written : (m : Front) → front_refusal m ≡ None → IsFront m (front_bytes m)
unfolding front_side
front_written m h = side.written front_side front_is m h

pub front_again : (m : Front) (packet rest : List ℕ) → IsFront m packet → front_of (packet ++ rest) ≡ decoded.Whole m (length packet)
front_again = side.again front_side front_is

pub front_takes : (bytes : List ℕ) (m : Front) (n : ℕ) → IsBytes bytes → front_of bytes ≡ decoded.Whole m n → (n ≤ length bytes) × IsFront m (take n bytes)
front_takes = side.takes front_side front_is

pub front_more : (bytes : List ℕ) → is_more (front_of bytes) ≡ true → length bytes ≤ front_limit
unfolding front_side
front_more = side.waits front_side front_is
