-- What of the bodies of a kind the laws say, and what passing over one tells.
use Rattle.std.proofs.Common.{◌<◌, ◌∷◌, inl, inr, arith, ◌≡◌, ℕ, ◌+◌, ◌≤◌, true, false, List, [], ◌++◌, length, Result, Ok, Err, refl, sym, ap, subst, ◌∙◌}
use Rattle.std.specs.Prelude.{◌==◌}
use Rattle.std.specs.Result.{is_ok}
use Rattle.std.proofs.lemmas.Bool.{cases_Bool, ne_eqb}
use Rattle.std.proofs.lemmas.List.{append-nil}
use Rattle.message_shapes.specs.Fields.{◌>>=◌, Passes, behind, ended}
use Rattle.message_shapes.specs.Shapes.{Shape, size_limit}
use Rattle.message_shapes.specs.Spelling.{IsBytes}
use Rattle.message_shapes.proofs.FieldLaws.{bind_ok, ok_is, Takes}
use Rattle.message_shapes.proofs.Passes.{passed_made}
use Rattle.message_shapes.proofs.ShapeLaws.{IsShape, via_ok}
use Rattle.pg_messages.specs.Sides.{Form, formed_at, formed, BreaksBody}
use Rattle.pg_messages.specs.Startup.{last}
use Rattle.pg_messages.specs.declared.startup.Startup.{Startup}

not_nothing : (rest : List ℕ) → (length rest == 0) ≡ false → 0 < length rest
not_nothing [] h = absurd cc
not_nothing (x ∷ rest) h = omega arith

-- what is read of whole bodies is what they spell
pub record IsForm {T : Type 0} (f : Form T) : Type 0 where
  pub takes : (body : List ℕ) (m : T) → IsBytes body → f.read body ≡ Ok (m, []) → f.Spells m body
  pub again : (m : T) (body : List ℕ) → f.Spells m body → f.read body ≡ Ok (m, [])

-- The fields of a body may be followed by more bytes, and the reader finds the first bad field.
pub record HasFields {T : Type 0} (f : Form T) : Type 0 where
  pub takes : (bytes : List ℕ) (m : T) (rest : List ℕ) → IsBytes bytes → f.read bytes ≡ Ok (m, rest) → (text : List ℕ) × f.Spells m text × Takes bytes text rest
  pub again : (m : T) (text rest : List ℕ) → f.Spells m text → f.read (text ++ rest) ≡ Ok (m, rest)
  pub broken : (bytes : List ℕ) (left : ℕ) → IsBytes bytes → f.read bytes ≡ Err left → f.Breaks bytes left
  pub breaks : (bytes : List ℕ) (left : ℕ) → IsBytes bytes → f.Breaks bytes left → f.read bytes ≡ Err left

made_fault : {A B : Type 0} (r : Result A ℕ) (f : A → B) (left : ℕ) → (r >>= λ x. Ok (f x)) ≡ Err left → r ≡ Err left
made_fault (Ok x) f left e = absurd cc
made_fault (Err m) f left e = cc

pub formed_is : {X T : Type 0} (shape : Shape X) (made : X → T) → IsShape shape → HasFields (formed shape made)
unfolding formed_at
formed_is {X = X} {T = T} shape made is = record {
  takes = λ bytes m rest fits e.
      let a = bind_ok (shape.read bytes) (λ x. Ok (made x.0, x.1)) (m, rest) e in
      let one = is.takes bytes a.0.0 a.0.1 fits a.1 in
      let all : (text : List ℕ) × (formed shape made).Spells (made a.0.0) text × Takes bytes text a.0.1 = (one.0, (a.0.0, refl {a = made a.0.0}, one.1), one.2) in
      subst (λ (z : T × List ℕ). (text : List ℕ) × (formed shape made).Spells z.0 text × Takes bytes text z.1) (ok_is (made a.0.0, a.0.1) (m, rest) a.2) all;
  again = λ m text rest h. via_ok made shape.read (text ++ rest) rest h.0 m (is.again h.0 text rest h.2) h.1;
  broken = λ bytes left fits e. is.broken bytes left fits (made_fault (shape.read bytes) (λ x. (made x.0, x.1)) left e);
  breaks = λ bytes left fits h. ap (λ r. r >>= λ x. Ok (made x.0, x.1)) (is.breaks bytes left fits h);
}

pub fields_form : {T : Type 0} (f : Form T) → HasFields f → IsForm f
fields_form f is = record {
  takes = λ body m fits e.
      let t = is.takes body m [] fits e in
      let all : body ≡ t.0 = t.2.parts ∙ append-nil t.0 in
      subst (f.Spells m) (sym all) t.1;
  again = λ m body h. ap f.read (sym (append-nil body)) ∙ is.again m body [] h;
}

-- ---- bad bodies

abbrev fault : {X : Type 0} → ℕ → Result X ℕ
fault left = Err left

fault_is : {X : Type 0} (m n : ℕ) → fault {X = X} m ≡ fault {X = X} n → m ≡ n
fault_is m n e = cc

other_fault : {X Y : Type 0} (m n : ℕ) → fault {X = X} m ≡ fault {X = X} n → fault {X = Y} m ≡ fault {X = Y} n
other_fault m n e = cc

abbrev done : {X : Type 0} → X → Result X ℕ
done x = Ok x

no_fault : {X : Type 0} (x : X) (left : ℕ) → done x ≡ Err left → ⊥
no_fault x left e = cc

body_found : {T : Type 0} (f : Form T) → HasFields f → (body : List ℕ) (left : ℕ) → IsBytes body → (found : Result (T × List ℕ) ℕ) → f.read body ≡ found → (found >>= ended) ≡ Err left → BreaksBody f body left
body_found f is body left fits (Err m) read e = inl (is.broken body left fits (read ∙ other_fault m left e))
body_found f is body left fits (Ok x) read e =
    let t = is.takes body x.0 x.1 fits read in
    elim (cases_Bool (length x.1 == 0)) [
      | inl none ↦ (let no : done x.0 ≡ Err left = rw none at e in absurd (no_fault x.0 left no))
      | inr some ↦
          let at : length x.1 ≡ left = fault_is (length x.1) left (rw some at e) in
          inr (x.0, t.0, x.1, t.2.parts, t.1, not_nothing x.1 some, sym at)
    ]

-- the reader finds where a body is bad
pub body_broken : {T : Type 0} (f : Form T) → HasFields f → (body : List ℕ) (left : ℕ) → IsBytes body → (f.read body >>= ended) ≡ Err left → BreaksBody f body left
body_broken f is body left fits e = body_found f is body left fits (f.read body) refl e

pub body_breaks : {T : Type 0} (f : Form T) → HasFields f → (body : List ℕ) (left : ℕ) → IsBytes body → BreaksBody f body left → (f.read body >>= ended) ≡ Err left
body_breaks f is body left fits (inl h) = ap (λ r. r >>= ended) (is.breaks body left fits h)
body_breaks f is body left fits (inr (m, text, rest, all, spelled, some, at)) =
    let read : f.read body ≡ Ok (m, rest) = ap f.read all ∙ is.again m text rest spelled in
    let more : (length rest == 0) ≡ false = ne_eqb (length rest) 0 (λ e. absurd (omega (arith, e, some))) in
    rw (read, more) (ap fault (sym at))

pub sent_is : {X T : Type 0} (shape : Shape X) (made : X → T) (is : IsShape shape) (x : X) (m : T) → made x ≡ m → shape.good x ≡ true → length (shape.write x) ≤ size_limit → (formed shape made).Spells m (shape.write x)
sent_is shape made is x m back h small = (x, back, is.written x h small)

-- what passes over the fields passes over the message
pub passed_formed : {X T Z : Type 0} (view : Z → List ℕ) (result : Result Z ℕ) (made : X → T) (read : List ℕ → Result (X × List ℕ) ℕ) (bytes : List ℕ) → Passes view result (read bytes) → Passes view result (formed_at made read bytes)
unfolding formed_at
passed_formed view result made read bytes h = passed_made view result made read bytes h

-- what is left behind a start-up packet's fields says whether the zero byte is its last
pub passed_behind : (read : Result (Startup × List ℕ) ℕ) (rest : List ℕ) → behind read ≡ Ok rest → (length rest == 0) ≡ true → is_ok (read >>= last) ≡ true
passed_behind (Ok x) rest h none = (let same : x.1 ≡ rest = cc in rw (same, none) refl)
passed_behind (Err left) rest h none = absurd cc

pub passed_last : (read : Result (Startup × List ℕ) ℕ) (rest : List ℕ) → behind read ≡ Ok rest → (length rest == 0) ≡ false → (read >>= last) ≡ Err (length rest + 1)
passed_last (Ok x) rest h some = (let same : x.1 ≡ rest = cc in rw (same, some) refl)
passed_last (Err left) rest h some = absurd cc
