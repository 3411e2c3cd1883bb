-- The bytes of replies that are put piece by piece, without a message being made.
use Rattle.std.specs.Prelude.{◌≡◌, ◌≤◌, ℕ, ◌+◌, false, List, [], ◌∷◌, ◌++◌, length, codes, decimal, Option, Some, None}
use Rattle.std.specs.Int.{w32, to_be_bytes}
use Rattle.session_replies.specs.Errors.{has_name}
use Rattle.session_replies.specs.Replies.{Fault, error_of, error_with}
use Rattle.session_replies.specs.declared.plain.Plain.{Plain}
use Rattle.session_replies.specs.declared.refusal.Refusal.{Refusal}

abbrev pub number_text : Option ℕ → List ℕ
number_text None = []
number_text (Some number) = decimal number

abbrev pub parameter_bytes : List ℕ → List ℕ → List ℕ
parameter_bytes name value = 83 ∷ to_be_bytes w32 (length name + length value + 6) ++ name ++ 0 ∷ value ++ 0 ∷ []

-- a tag's word, and its number where it has one
abbrev pub tag_bytes : List ℕ → List ℕ → List ℕ
tag_bytes word number = 67 ∷ to_be_bytes w32 (length word + length number + 5) ++ word ++ number ++ 0 ∷ []

abbrev pub field_bytes : ℕ → List ℕ → List ℕ
field_bytes code text = code ∷ text ++ 0 ∷ []

abbrev pub place_bytes : Option ℕ → List ℕ
place_bytes None = []
place_bytes (Some place) = field_bytes 80 (decimal place)

abbrev pub error_size : List ℕ → Fault → ℕ
error_size severity it = length severity + length severity + length it.code + length it.text + length (place_bytes it.place) + 13

abbrev pub error_bytes : List ℕ → Fault → List ℕ
error_bytes severity it =
    69 ∷ to_be_bytes w32 (error_size severity it)
    ++ field_bytes 83 severity ++ field_bytes 86 severity ++ field_bytes 67 it.code ++ field_bytes 77 it.text
    ++ place_bytes it.place ++ 0 ∷ []

-- what a text says that has a number at most, and no name
abbrev pub plain_fault : Plain → Fault
plain_fault it = record { code = it.code.now; text = it.before.now ++ number_text it.number ++ it.after.now; place = it.place }

-- its parts, one by one: a severity, an SQLSTATE, and a text with a number or at a place, where it has one
pub record HasParts (severity code before after : List ℕ) (number place : Option ℕ) (it : Plain) : Type 0 where
  pub severity_is : it.severity.now ≡ severity
  pub code_is : it.code.now ≡ code
  pub before_is : it.before.now ≡ before
  pub number_is : it.number ≡ number
  pub after_is : it.after.now ≡ after
  pub place_is : it.place ≡ place

abbrev pub IsPlainly : List ℕ → List ℕ → List ℕ → Plain → Type 0
IsPlainly severity code text it = HasParts severity code text [] None None it

abbrev pub IsNumbered : List ℕ → List ℕ → ℕ → List ℕ → Plain → Type 0
IsNumbered code before number after it = HasParts (codes "ERROR") code before after (Some number) None it

abbrev pub IsPlaced : List ℕ → List ℕ → ℕ → Plain → Type 0
IsPlaced code text place it = HasParts (codes "ERROR") code text [] None (Some place) it

-- its parts are short
pub record IsShort (it : Plain) : Type 0 where
  pub severity : length it.severity.now ≤ 5
  pub code : length it.code.now ≤ 5
  pub text : length it.before.now + length it.after.now ≤ 36

-- the text of a refusal holds no name, and it is told so
pub record IsPlain (why : Refusal) (it : Plain) : Type 0 where
  pub nameless : has_name why ≡ false
  pub says : error_with it.severity.now (plain_fault it) ≡ error_of [] why
  pub short : IsShort it
