-- What the bytes tell that something was passed over: whether it is read, and what is behind it.
use Rattle.std.proofs.Common.{◌≡◌, ℕ, true, false, List, length, Option, Some, Result, Ok, Err, refl, ap, ◌∙◌, inl, inr}
use Rattle.std.specs.Prelude.{◌==◌}
use Rattle.std.specs.Result.{is_ok}
use Rattle.std.proofs.lemmas.Bool.{cases_Bool}
use Rattle.message_shapes.specs.Fields.{◌>>=◌, Passes, behind, behind_next, ended}
use Rattle.message_shapes.specs.Shapes.{both_at, listed, made_at}
use Rattle.message_shapes.proofs.FieldLaws.{guarded_ok}

abbrev accepted : Result (Unit {0}) ℕ
accepted = Ok tt

abbrev refused : ℕ → Result (Unit {0}) ℕ
refused left = Err left

left_is : {n left : ℕ} → refused n ≡ refused left → n ≡ left
left_is e = cc

-- what is left behind it says whether it is all
pub passed_ended : {X : Type 0} (read : Result (X × List ℕ) ℕ) (rest : List ℕ) (done : Unit {0}) → behind read ≡ Ok rest → ended (tt, rest) ≡ Ok done → is_ok (read >>= ended) ≡ true
passed_ended (Ok x) rest done h e =
    let same : x.1 ≡ rest = cc in
    let none : (length rest == 0) ≡ true = (guarded_ok (length rest == 0) (length rest) tt done e).0 in
    rw (same, none) refl
passed_ended (Err left) rest done h e = absurd cc

pub passed_spare : {X : Type 0} (read : Result (X × List ℕ) ℕ) (rest : List ℕ) (left : ℕ) → behind read ≡ Ok rest → ended (tt, rest) ≡ refused left → (read >>= ended) ≡ Err left
passed_spare (Ok x) rest left h e =
    let same : x.1 ≡ rest = cc in
    elim (cases_Bool (length rest == 0)) [
      | inl none ↦ (let no : accepted ≡ refused left = rw none at e in absurd cc)
      | inr some ↦ (let n : length rest ≡ left = left_is (rw some at e) in rw (same, some) (ap Err n))
    ]
passed_spare (Err n) rest left h e = absurd cc

-- ---- of the next of several

pub passed_next : {X : Type 0} (read : Result (X × List ℕ) ℕ) (rest : List ℕ) → behind read ≡ Ok rest → behind_next (read >>= listed) ≡ Ok (false, rest)
passed_next (Ok x) rest h = (let same : x.1 ≡ rest = cc in rw same refl)
passed_next (Err left) rest h = absurd cc

-- ---- of two fields

abbrev after : {X Y : Type 0} → X → Result (Y × List ℕ) ℕ → Result ((X × Y) × List ℕ) ℕ
after {X = X} {Y = Y} x second =
    let paired : Y × List ℕ → (X × Y) × List ℕ = λ y. ((x, y.0), y.1) in
    second >>= λ y. Ok (paired y)

abbrev both : {X Y : Type 0} → Result (X × List ℕ) ℕ → (List ℕ → Result (Y × List ℕ) ℕ) → Result ((X × Y) × List ℕ) ℕ
both first second = first >>= λ x. after x.0 (second x.1)

behind_second : {X Y : Type 0} (x : X) (second : Result (Y × List ℕ) ℕ) → behind (after x second) ≡ behind second
behind_second x (Ok y) = refl
behind_second x (Err left) = refl

behind_both : {X Y : Type 0} (first : Result (X × List ℕ) ℕ) (second : List ℕ → Result (Y × List ℕ) ℕ) (rest : List ℕ) → behind first ≡ Ok rest → behind (both first second) ≡ behind (second rest)
behind_both (Ok x) second rest h = (let same : x.1 ≡ rest = cc in rw same (behind_second x.0 (second rest)))
behind_both (Err left) second rest h = absurd cc

both_fault : {X Y : Type 0} (first : Result (X × List ℕ) ℕ) (second : List ℕ → Result (Y × List ℕ) ℕ) (rest : List ℕ) (left : ℕ) → behind first ≡ Ok rest → second rest ≡ Err left → both first second ≡ Err left
both_fault (Ok x) second rest left h e = (let same : x.1 ≡ rest = cc in rw (same, e) refl)
both_fault (Err n) second rest left h e = absurd cc

pub passed_both : {X Y Z : Type 0} (view : Z → List ℕ) (result : Result Z ℕ) (first : List ℕ → Result (X × List ℕ) ℕ) (second : List ℕ → Result (Y × List ℕ) ℕ) (bytes rest : List ℕ) → behind (first bytes) ≡ Ok rest → Passes view result (second rest) → Passes view result (both_at first second bytes)
passed_both view (Ok z) first second bytes rest h e = behind_both (first bytes) second rest h ∙ e
passed_both view (Err left) first second bytes rest h e = both_fault (first bytes) second rest left h e

-- ---- of a value that is made of what is read

behind_made : {X Y : Type 0} (made : X → Y) (read : Result (X × List ℕ) ℕ) → behind (read >>= λ x. Ok (made x.0, x.1)) ≡ behind read
behind_made made (Ok x) = refl
behind_made made (Err left) = refl

pub passed_made : {X Y Z : Type 0} (view : Z → List ℕ) (result : Result Z ℕ) (made : X → Y) (read : List ℕ → Result (X × List ℕ) ℕ) (bytes : List ℕ) → Passes view result (read bytes) → Passes view result (made_at made read bytes)
passed_made view (Ok z) made read bytes h = behind_made made (read bytes) ∙ h
passed_made view (Err left) made read bytes h = rw h refl
