-- The messages of a server are a side.
use Rattle.std.proofs.Common.{◌≡◌, ℕ, suc, zero, ◌≤◌, true, eqb, List, ◌∷◌, ◌++◌, Option, Some, None, length, refl, ap, ◌∙◌, arith, lit<, inl, inr}
use Rattle.std.specs.Prelude.{not, ◌==◌}
use Rattle.std.proofs.lemmas.Bool.{cases_Bool, eqb-true}
use Rattle.pg_messages.specs.Back.{status_of, status_byte, status, field_parts, field_made, field_taken, field, error_field, error_field_made, error_field_taken, back_form, back_sent, back_side, back_of, back_bytes, back_refusal, IsBack}
use Rattle.pg_messages.specs.Packet.{is_more}
use Rattle.pg_messages.specs.Limits.{back_limit}
use Rattle.message_shapes.proofs.ComposedLaws.{StartsWell, counted_is, zero_ended_is, both_is, via_is}
use Rattle.std.specs.Int.{w32}
use Rattle.message_shapes.specs.Shapes.{size_limit, mark, fixed, number, zero_ended, string, one_byte, ◌&◌, minus_one}
use Rattle.pg_messages.specs.declared.back.Back.{Back}
use Rattle.pg_messages.specs.declared.back.Back.TheVariants as back
use Rattle.pg_messages.specs.declared.back.BackKind.{BackKind}
use Rattle.pg_messages.specs.declared.back.BackKind.TheVariants as kinds
use Rattle.pg_messages.specs.declared.back.Status.{Status}
use Rattle.pg_messages.specs.declared.back.Status.TheVariants as at
use Rattle.message_shapes.proofs.ShapeLaws.{IsShape, string_is, nothing_is, number32_is, fixed32_is, low16_is, dropped16_is, dropped32_is, signed16_is, choice_is, mark_is, sized_is}
use Rattle.pg_messages.proofs.Forms.{HasFields, formed_is, sent_is}
use Rattle.pg_messages.proofs.SideLaws as side
use Rattle.pg_messages.proofs.SideLaws.{IsSide}

abbrev known : Status → Option Status
known s = Some s

unsome : (a b : Status) → known a ≡ Some b → a ≡ b
unsome a b e = cc

abbrev unknown : Option Status
unknown = None

status_only : (b : ℕ) (s : Status) → status_of b ≡ Some s → b ≡ status_byte s
status_only b s e =
    elim (cases_Bool (eqb b 73)) [
      | inl is ↦ (let k : at.Idle ≡ s = unsome at.Idle s (rw is at e) in eqb-true b 73 is ∙ ap status_byte k)
      | inr not_idle ↦ elim (cases_Bool (eqb b 84)) [
        | inl is ↦ (let k : at.InBlock ≡ s = unsome at.InBlock s (rw (not_idle, is) at e) in eqb-true b 84 is ∙ ap status_byte k)
        | inr not_in ↦ elim (cases_Bool (eqb b 69)) [
          | inl is ↦ (let k : at.Failed ≡ s = unsome at.Failed s (rw (not_idle, not_in, is) at e) in eqb-true b 69 is ∙ ap status_byte k)
          | inr none ↦ (let no : unknown ≡ Some s = rw (not_idle, not_in, none) at e in absurd cc)
        ]
      ]
    ]

status_back : (s : Status) → status_of (status_byte s) ≡ Some s
status_back at.Idle = refl
status_back at.InBlock = refl
status_back at.Failed = refl

status_is : IsShape status
status_is = choice_is status_of status_byte (record { back = status_back; only = status_only })

field_is : IsShape field
unfolding field
field_is = via_is field_made field_taken field_parts (both_is _ _ string_is (both_is _ _ (dropped32_is 0) (both_is _ _ (dropped16_is 0) (both_is _ _ number32_is (both_is _ _ signed16_is (both_is _ _ (dropped32_is minus_one) (low16_is 1 (lit< tt)))))))) (λ f h. refl)

error_field_is : IsShape error_field
unfolding error_field
error_field_is = via_is error_field_made error_field_taken (mark & string) (both_is _ _ mark_is string_is) (λ f h. refl)

mark_starts : (byte : ℕ) (a b text : List ℕ) → not (byte == 0) ≡ true → a ≡ one_byte byte → text ≡ a ++ b → (n : ℕ) × (t : List ℕ) × (text ≡ suc n ∷ t)
unfolding one_byte
mark_starts zero a b text h is all = absurd cc
mark_starts (suc n) a b text h is all = (n, b, all ∙ ap (λ (t : List ℕ). t ++ b) is)

error_field_starts : StartsWell error_field
unfolding error_field
error_field_starts f text h = mark_starts h.0.0 h.2.0 h.2.1 text h.2.3.0 h.2.3.1 h.2.2

zero_is : IsShape (fixed w32 0)
zero_is = fixed32_is 0 refl

keys_is : IsShape (number w32 & number w32)
keys_is = both_is _ _ number32_is number32_is

strings_is : IsShape (string & string)
strings_is = both_is _ _ string_is string_is

fields_is : IsShape (zero_ended error_field)
fields_is = zero_ended_is _ error_field_is error_field_starts

laws : (k : BackKind) → HasFields (back_form k)
unfolding back_form
laws kinds.AuthenticationOk = formed_is _ _ zero_is
laws kinds.BackendKeyData = formed_is _ _ keys_is
laws kinds.ParameterStatus = formed_is _ _ strings_is
laws kinds.ReadyForQuery = formed_is _ _ status_is
laws kinds.RowDescription = formed_is _ _ (counted_is _ field_is)
laws kinds.DataRow = formed_is _ _ (counted_is _ sized_is)
laws kinds.CommandComplete = formed_is _ _ string_is
laws kinds.EmptyQueryResponse = formed_is _ _ nothing_is
laws kinds.ErrorResponse = formed_is _ _ fields_is

told : (k : BackKind) → back_side.kind (back_side.byte k) ≡ Some k
unfolding back_side
told kinds.AuthenticationOk = refl
told kinds.BackendKeyData = refl
told kinds.ParameterStatus = refl
told kinds.ReadyForQuery = refl
told kinds.RowDescription = refl
told kinds.DataRow = refl
told kinds.CommandComplete = refl
told kinds.EmptyQueryResponse = refl
told kinds.ErrorResponse = refl

sending : (m : Back) → (back_sent m).good ≡ true → length (back_sent m).body ≤ size_limit → (back_form (back_sent m).kind).Spells m (back_sent m).body
unfolding back_form back_sent
sending back.AuthenticationOk = sent_is _ _ zero_is tt _ refl
sending (back.BackendKeyData process key) = sent_is _ _ keys_is (process, key) _ refl
sending (back.ParameterStatus name value) = sent_is _ _ strings_is (name, value) _ refl
sending (back.ReadyForQuery s) = sent_is _ _ status_is s _ refl
sending (back.RowDescription fields) = sent_is _ _ (counted_is _ field_is) fields _ refl
sending (back.DataRow cells) = sent_is _ _ (counted_is _ sized_is) cells _ refl
sending (back.CommandComplete tag) = sent_is _ _ string_is tag _ refl
sending back.EmptyQueryResponse = sent_is _ _ nothing_is tt _ refl
sending (back.ErrorResponse fields) = sent_is _ _ fields_is fields _ refl

pub back_is : IsSide back_side
unfolding back_side
back_is = record { least = omega arith; most = omega arith; told = told; form = laws; sent = sending }

-- ---- the laws of a side

pub back_written : (m : Back) → back_refusal m ≡ None → IsBack m (back_bytes m)
unfolding back_side
back_written m h = side.written back_side back_is m h

pub back_more : (bytes : List ℕ) → is_more (back_of bytes) ≡ true → length bytes ≤ back_limit
unfolding back_side
back_more = side.waits back_side back_is
