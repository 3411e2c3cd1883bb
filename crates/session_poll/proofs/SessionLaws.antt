-- The calls of a session beside its polls.
use Rattle.std.proofs.Common.{◌≡◌, ◌∙◌, ℕ, zero, suc, min, List, [], ◌∷◌, ◌++◌, length, take, drop, refl, sym, ap, subst, append_assoc, take-append-drop, arith}
use Rattle.session_poll.specs.declared.session.Session.{Session}
use Rattle.session_poll.specs.Runs.{Did, bytes_read, IsAt}
use Rattle.session_poll.specs.Session.{state_of, held_of, waiting_of}
use Rattle.session_poll.specs.State.{State, opening_state}
use Rattle.stored_versions.specs.Openings.{Opening}

pub at_start : (session : Session) → state_of session ≡ opening_state → held_of session ≡ [] → waiting_of session ≡ [] → (opening : Opening) → IsAt opening [] [] [] session
at_start session state held waiting opening = record {
  is_run = tt;
  state = state;
  input = sym held;
  output = sym waiting;
}

pub at_fed : (old new : Session) (bytes : List ℕ) → state_of new ≡ state_of old → waiting_of new ≡ waiting_of old → held_of new ≡ held_of old ++ bytes → (opening : Opening) (fed taken : List ℕ) (run : List Did) → IsAt opening fed taken run old → IsAt opening (fed ++ bytes) taken run new
at_fed old new bytes state waiting held opening fed taken run is = record {
  is_run = is.is_run;
  state = state ∙ is.state;
  input = ap (λ (f : List ℕ). f ++ bytes) is.input ∙ append_assoc (bytes_read run) (held_of old) bytes ∙ ap (λ (h : List ℕ). bytes_read run ++ h) (sym held);
  output = is.output ∙ ap (λ (w : List ℕ). taken ++ w) (sym waiting);
}

pub at_ended : (old new : Session) → state_of new ≡ state_of old → waiting_of new ≡ waiting_of old → held_of new ≡ held_of old → (opening : Opening) (fed taken : List ℕ) (run : List Did) → IsAt opening fed taken run old → IsAt opening fed taken run new
at_ended old new state waiting held opening fed taken run is = record {
  is_run = is.is_run;
  state = state ∙ is.state;
  input = is.input ∙ ap (λ (h : List ℕ). bytes_read run ++ h) (sym held);
  output = is.output ∙ ap (λ (w : List ℕ). taken ++ w) (sym waiting);
}

take_min : (count : ℕ) (bytes : List ℕ) → take (min count (length bytes)) bytes ≡ take count bytes
take_min zero bytes = let none : min zero (length bytes) ≡ zero = omega arith in rw none refl
take_min (suc count) [] = let none : min (suc count) zero ≡ zero = omega arith in rw none refl
take_min (suc count) (byte ∷ bytes) =
    let order : min (suc count) (suc (length bytes)) ≡ suc (min count (length bytes)) = omega arith in
    rw order (ap (λ (b : List ℕ). byte ∷ b) (take_min count bytes))

pub at_taken : (old new : Session) (count : ℕ) → state_of new ≡ state_of old → held_of new ≡ held_of old → waiting_of new ≡ drop (min count (length (waiting_of old))) (waiting_of old) → (opening : Opening) (fed taken : List ℕ) (run : List Did) → IsAt opening fed taken run old → IsAt opening fed (taken ++ take count (waiting_of old)) run new
at_taken old new count state held waiting opening fed taken run is =
    let most = min count (length (waiting_of old)) in
    record {
      is_run = is.is_run;
      state = state ∙ is.state;
      input = is.input ∙ ap (λ (h : List ℕ). bytes_read run ++ h) (sym held);
      output = is.output
          ∙ ap (λ (w : List ℕ). taken ++ w) (sym (take-append-drop most (waiting_of old)))
          ∙ sym (append_assoc taken (take most (waiting_of old)) (drop most (waiting_of old)))
          ∙ ap (λ (t : List ℕ). (taken ++ t) ++ drop most (waiting_of old)) (take_min count (waiting_of old))
          ∙ ap (λ (w : List ℕ). (taken ++ take count (waiting_of old)) ++ w) (sym waiting);
    }
