-- Replies that are put piece by piece are the messages that they stand for.
use Rattle.std.proofs.Common.{rules, ◌≡◌, ◌∙◌, ℕ, ◌+◌, true, false, List, [], ◌∷◌, ◌++◌, length, codes, decimal, inl, inr, Option, Some, None, refl, sym, ap, arith, length-append, append_assoc, append-nil, true≢false}
use Rattle.std.specs.Int.{w32, to_be_bytes}
use Rattle.std.specs.List.{flat_map}
use Rattle.message_shapes.specs.Shapes.{string_bytes, one_byte, ended_bytes}
use Rattle.pg_messages.specs.Back.{back_bytes, back_sent, error_field}
use Rattle.pg_messages.specs.declared.back.Back.TheVariants as back
use Rattle.query_meaning.specs.declared.ill.IllCase.{IllCase}
use Rattle.query_meaning.specs.declared.ill.IllCase.TheVariants as ill
use Rattle.query_meaning.specs.declared.ill.TypeRefused.{TypeRefused}
use Rattle.query_meaning.specs.declared.ill.TypeRefused.TheVariants as untyped
use Rattle.session_replies.specs.AnswerMessages.{name_text}
use Rattle.session_replies.specs.Errors.{Told, has_name, names_case, names_type}
use Rattle.session_replies.specs.Pieces.{IsPlain, error_bytes, error_size, field_bytes, parameter_bytes, place_bytes, plain_fault, tag_bytes}
use Rattle.session_replies.specs.Replies.{Fault, error_of, error_with, fields, ill_fault, out_of_memory, placed, shown_variant, type_fault}
use Rattle.session_replies.specs.declared.plain.Plain.{Plain}
use Rattle.session_replies.specs.declared.refusal.Refusal.{Refusal}
use Rattle.session_replies.specs.declared.refusal.Refusal.TheVariants as refusal

-- ---- parameters and tags

ended : (text : List ℕ) → length (text ++ 0 ∷ []) ≡ length text + 1
ended text = length-append text (0 ∷ [])

two_strings : (head name value : List ℕ) → head ++ name ++ 0 ∷ value ++ 0 ∷ [] ≡ head ++ ((name ++ 0 ∷ []) ++ (value ++ 0 ∷ []))
two_strings head name value = simp append_assoc

five_fields : (head s v c m p : List ℕ) → head ++ s ++ v ++ c ++ m ++ p ++ 0 ∷ [] ≡ head ++ ((s ++ (v ++ (c ++ (m ++ p)))) ++ 0 ∷ [])
five_fields head s v c m p = simp append_assoc

parameter_is : (name value : List ℕ) → parameter_bytes name value ≡ back_bytes (back.ParameterStatus name value)
unfolding back_sent string_bytes
parameter_is name value =
    let long : length name + length value + 6 ≡ length ((name ++ 0 ∷ []) ++ (value ++ 0 ∷ [])) + 4 = omega (arith, length-append (name ++ 0 ∷ []) (value ++ 0 ∷ []), ended name, ended value) in
    ap (λ n. 83 ∷ to_be_bytes w32 n ++ name ++ 0 ∷ value ++ 0 ∷ []) long
    ∙ two_strings (83 ∷ to_be_bytes w32 (length ((name ++ 0 ∷ []) ++ (value ++ 0 ∷ [])) + 4)) name value

pub parameter_put : (name value : List ℕ) (old new : List ℕ) → new ≡ old ++ parameter_bytes name value → new ≡ old ++ back_bytes (back.ParameterStatus name value)
parameter_put name value old new put = put ∙ ap (λ (b : List ℕ). old ++ b) (parameter_is name value)

tag_is : (word number : List ℕ) → tag_bytes word number ≡ back_bytes (back.CommandComplete (word ++ number))
unfolding back_sent string_bytes
tag_is word number =
    let long : length word + length number + 5 ≡ length ((word ++ number) ++ 0 ∷ []) + 4 = omega (arith, ended (word ++ number), length-append word number) in
    ap (λ n. 67 ∷ to_be_bytes w32 n ++ word ++ number ++ 0 ∷ []) long ∙ search rules

pub tag_put : (text word number old new : List ℕ) → word ++ number ≡ text → new ≡ old ++ tag_bytes word number → new ≡ old ++ back_bytes (back.CommandComplete text)
tag_put text word number old new is put =
    put ∙ ap (λ (b : List ℕ). old ++ b) (tag_is word number ∙ ap (λ (t : List ℕ). back_bytes (back.CommandComplete t)) is)

-- ---- errors

placed_is : (place : Option ℕ) → flat_map error_field.write (placed place) ≡ place_bytes place
unfolding error_field string_bytes one_byte
placed_is None = refl
placed_is (Some place) = append-nil (field_bytes 80 (decimal place))

-- the fields of an error, and the zero byte behind them
abbrev body : List ℕ → Fault → List ℕ
body severity it =
    (field_bytes 83 severity ++ (field_bytes 86 severity ++ (field_bytes 67 it.code ++ (field_bytes 77 it.text ++ place_bytes it.place)))) ++ 0 ∷ []

body_long : (severity : List ℕ) (it : Fault) → error_size severity it ≡ length (body severity it) + 4
body_long severity it =
    let s = field_bytes 83 severity in
    let v = field_bytes 86 severity in
    let c = field_bytes 67 it.code in
    let m = field_bytes 77 it.text in
    let p = place_bytes it.place in
    omega (arith, length-append (s ++ (v ++ (c ++ (m ++ p)))) (0 ∷ []), length-append s (v ++ (c ++ (m ++ p))), length-append v (c ++ (m ++ p)), length-append c (m ++ p), length-append m p, ended severity, ended it.code, ended it.text)

error_is : (severity : List ℕ) (it : Fault) → error_bytes severity it ≡ back_bytes (error_with severity it)
unfolding back_sent error_field string_bytes one_byte ended_bytes
error_is severity it =
    let placed_same = placed_is it.place in
    ap (λ n. 69 ∷ to_be_bytes w32 n ++ field_bytes 83 severity ++ field_bytes 86 severity ++ field_bytes 67 it.code ++ field_bytes 77 it.text ++ place_bytes it.place ++ 0 ∷ []) (body_long severity it)
    ∙ five_fields (69 ∷ to_be_bytes w32 (length (body severity it) + 4)) (field_bytes 83 severity) (field_bytes 86 severity) (field_bytes 67 it.code) (field_bytes 77 it.text) (place_bytes it.place)
    ∙ ap (λ (p : List ℕ). 69 ∷ to_be_bytes w32 (length ((field_bytes 83 severity ++ (field_bytes 86 severity ++ (field_bytes 67 it.code ++ (field_bytes 77 it.text ++ p)))) ++ 0 ∷ []) + 4) ++ ((field_bytes 83 severity ++ (field_bytes 86 severity ++ (field_bytes 67 it.code ++ (field_bytes 77 it.text ++ p)))) ++ 0 ∷ [])) (sym placed_same)

pub error_put : (severity code text : List ℕ) (place : Option ℕ) (old new : List ℕ) → new ≡ old ++ error_bytes severity (record { code = code; text = text; place = place }) → new ≡ old ++ back_bytes (back.ErrorResponse (fields severity code text ++ placed place))
error_put severity code text place old new put = put ∙ ap (λ (b : List ℕ). old ++ b) (error_is severity (record { code = code; text = text; place = place }))

seven : (b h s v c m p end : List ℕ) → ((((((b ++ h) ++ s) ++ v) ++ c) ++ m) ++ p) ++ end ≡ b ++ (h ++ s ++ v ++ c ++ m ++ p ++ end)
seven b h s v c m p end = simp append_assoc

-- one piece behind the other
pub fields_put : (it : Plain) (size : ℕ) (b0 b1 b2 b3 b4 b5 b6 b7 : List ℕ) → size ≡ error_size it.severity.now (plain_fault it) → b1 ≡ b0 ++ 69 ∷ to_be_bytes w32 size → b2 ≡ b1 ++ field_bytes 83 it.severity.now → b3 ≡ b2 ++ field_bytes 86 it.severity.now → b4 ≡ b3 ++ field_bytes 67 it.code.now → b5 ≡ b4 ++ field_bytes 77 (plain_fault it).text → b6 ≡ b5 ++ place_bytes it.place → b7 ≡ b6 ++ 0 ∷ [] → b7 ≡ b0 ++ error_bytes it.severity.now (plain_fault it)
fields_put it size b0 b1 b2 b3 b4 b5 b6 b7 is p1 p2 p3 p4 p5 p6 p7 =
    p7 ∙ rw (p6, p5, p4, p3, p2, p1, is) (seven b0 (69 ∷ to_be_bytes w32 (error_size it.severity.now (plain_fault it))) (field_bytes 83 it.severity.now) (field_bytes 86 it.severity.now) (field_bytes 67 it.code.now) (field_bytes 77 (plain_fault it).text) (place_bytes it.place) (0 ∷ []))

-- ---- the refusals whose text holds no name

case_nameless : (names : List (List ℕ)) (case : IllCase) (name : List ℕ) (c : Option (List ℕ)) → names_case case ≡ false → ill_fault case name (shown_variant names c) ≡ ill_fault case name (shown_variant [] c)
case_nameless names (ill.ParamKind number) name c is = refl
case_nameless names ill.NoTable name c is = absurd (true≢false is)
case_nameless names ill.NoColumn name c is = absurd (true≢false is)
case_nameless names ill.AbsentColumn name c is = absurd (true≢false is)
case_nameless names ill.Twice name c is = absurd (true≢false is)
case_nameless names ill.KindsDiffer name c is = absurd (true≢false is)
case_nameless names ill.ColumnsDiffer name c is = absurd (true≢false is)
case_nameless names ill.ValueKind name c is = absurd (true≢false is)
case_nameless names ill.NamedTwice name c is = absurd (true≢false is)
case_nameless names ill.NoValue name c is = absurd (true≢false is)

type_nameless : (names : List (List ℕ)) (why : TypeRefused) → names_type why ≡ false → type_fault names why ≡ type_fault [] why
type_nameless names (untyped.Ill why) is = case_nameless names why.case (name_text why.name) why.config is
type_nameless names (untyped.TooWide count) is = refl
type_nameless names untyped.Memory is = refl

-- their error is the same whatever the features are named
pub nameless : (names : List (List ℕ)) (why : Refusal) → has_name why ≡ false → error_of names why ≡ error_of [] why
nameless names refusal.NotBuilt is = refl
nameless names refusal.NotUtf8 is = refl
nameless names (refusal.Unparsed why) is = refl
nameless names (refusal.Untyped why) is = ap (error_with (codes "ERROR")) (type_nameless names why is)
nameless names (refusal.TooLong n) is = refl
nameless names refusal.OutOfMemory is = refl
nameless names refusal.TransactionFailed is = refl
nameless names refusal.KeeperFault is = refl
nameless names (refusal.Conflict table place) is = absurd (true≢false is)
nameless names (refusal.CameFirst place) is = refl
nameless names (refusal.LogFull number) is = refl

pub told_plain : (names : List (List ℕ)) (why : Refusal) (it : Plain) (old new : List ℕ) → IsPlain why it → new ≡ old ++ back_bytes (error_with it.severity.now (plain_fault it)) → Told names why old new
told_plain names why it old new plain put = record {
  message = error_of names why;
  tells = inl refl;
  put = put ∙ ap (λ m. old ++ back_bytes m) (plain.says ∙ sym (nameless names why plain.nameless));
}

pub told_named : (names : List (List ℕ)) (why : Refusal) (old new : List ℕ) → new ≡ old ++ back_bytes (error_of names why) → Told names why old new
told_named names why old new put = record { message = error_of names why; tells = inl refl; put = put }

pub told_memory : (names : List (List ℕ)) (why : Refusal) (old mid new : List ℕ) → has_name why ≡ true → mid ≡ old → new ≡ mid ++ back_bytes out_of_memory → Told names why old new
told_memory names why old mid new named same put = record {
  message = out_of_memory;
  tells = inr (named, refl);
  put = put ∙ ap (λ (b : List ℕ). b ++ back_bytes out_of_memory) same;
}
