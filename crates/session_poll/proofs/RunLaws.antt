-- A run with one step more.
use Rattle.std.proofs.Common.{◌≡◌, ◌∙◌, ℕ, List, [], ◌∷◌, ◌++◌, refl, sym, ap, subst, append_assoc, append-nil}
use Rattle.session_poll.proofs.CourseLaws.{state_same}
use Rattle.session_poll.specs.Packets.{IsReadAs}
use Rattle.session_poll.specs.Parts.{Same, Moved}
use Rattle.session_poll.specs.Runs.{Did, IsRunFrom, end_from, bytes_read, replied, events_of, IsAt}
use Rattle.session_poll.specs.Session.{held_of, waiting_of}
use Rattle.session_poll.specs.State.{State, opening_state}
use Rattle.session_poll.specs.Steps.{Step}
use Rattle.session_poll.specs.declared.session.Session.{Session}
use Rattle.session_replies.specs.Replies.{spelled}
use Rattle.store_events.specs.Events.{Event}
use Rattle.store_states.specs.Stored.{Stored}
use Rattle.store_states.specs.Views.{IsStore}
use Rattle.stored_versions.specs.Openings.{Opening}

run_more : (opening : Opening) (old : State) (run : List Did) (did : Did) → IsRunFrom opening old run → Step (end_from old run).phase did.input opening (end_from old run) did.course → IsReadAs (end_from old run).phase did.input did.bytes → IsRunFrom opening old (run ++ did ∷ [])
run_more opening old [] did is step read_as = (step, read_as, tt)
run_more opening old (d ∷ ds) did is step read_as = (is.0, is.1, run_more opening d.course.after ds did is.2 step read_as)

end_more : (old : State) (run : List Did) (did : Did) → end_from old (run ++ did ∷ []) ≡ did.course.after
end_more old [] did = refl
end_more old (d ∷ ds) did = end_more d.course.after ds did

bytes_read_more : (run : List Did) (did : Did) → bytes_read (run ++ did ∷ []) ≡ bytes_read run ++ did.bytes
bytes_read_more [] did = append-nil did.bytes
bytes_read_more (d ∷ ds) did = ap (λ (b : List ℕ). d.bytes ++ b) (bytes_read_more ds did) ∙ sym (append_assoc d.bytes (bytes_read ds) did.bytes)

replied_more : (run : List Did) (did : Did) → replied (run ++ did ∷ []) ≡ replied run ++ spelled did.course.replies
replied_more [] did = append-nil (spelled did.course.replies)
replied_more (d ∷ ds) did = ap (λ (b : List ℕ). spelled d.course.replies ++ b) (replied_more ds did) ∙ sym (append_assoc (spelled d.course.replies) (replied ds) (spelled did.course.replies))

pub events_on : (run more : List Did) → events_of (run ++ more) ≡ events_of run ++ events_of more
events_on [] more = refl
events_on (d ∷ ds) more = ap (λ (e : List Event). d.course.events ++ e) (events_on ds more) ∙ sym (append_assoc d.course.events (events_of ds) (events_of more))

-- what a client can't see doesn't matter
pub at_same : (opening : Opening) (fed taken : List ℕ) (run : List Did) (old new : Session) → Same old new → IsAt opening fed taken run old → IsAt opening fed taken run new
at_same opening fed taken run old new same is = record {
  is_run = is.is_run;
  state = state_same old new same.phase same.transaction ∙ is.state;
  input = is.input ∙ ap (λ (h : List ℕ). bytes_read run ++ h) (sym same.input.held);
  output = is.output ∙ ap (λ (w : List ℕ). taken ++ w) (sym same.waiting);
}

pub at_moved : (opening : Opening) (fed taken : List ℕ) (run : List Did) (old new : Session) (before after : Stored) (m : Moved old before new after) → IsStore opening before → IsAt opening fed taken run old → IsAt opening fed taken (run ++ m.did ∷ []) new
at_moved opening fed taken run old new before after m of is = record {
  is_run = run_more opening opening_state run m.did is.is_run
      (subst (λ s. Step s.phase m.did.input opening s m.did.course) is.state (m.step opening of))
      (subst (λ s. IsReadAs s.phase m.did.input m.did.bytes) is.state m.read_as);
  state = m.state ∙ sym (end_more opening_state run m.did);
  input = is.input ∙ ap (λ (h : List ℕ). bytes_read run ++ h) m.held ∙ sym (append_assoc (bytes_read run) m.did.bytes (held_of new)) ∙ ap (λ (b : List ℕ). b ++ held_of new) (sym (bytes_read_more run m.did));
  output = replied_more run m.did ∙ ap (λ (b : List ℕ). b ++ spelled m.did.course.replies) is.output ∙ append_assoc taken (waiting_of old) (spelled m.did.course.replies) ∙ ap (λ (b : List ℕ). taken ++ b) (sym m.put);
}
