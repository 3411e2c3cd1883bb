-- The start-up rule.
use Rattle.std.proofs.Common.{◌≡◌, ◌∙◌, ℕ, Bool, true, false, MatchBool, List, [], ◌∷◌, ◌++◌, inl, inr, refl, sym, ap, subst, true≢false}
use Rattle.pg_messages.specs.declared.startup.Startup.{Startup}
use Rattle.session_poll.proofs.CourseLaws.{goes_same, keeps_on, state_kept, takes_as}
use Rattle.session_poll.specs.Courses.{Course, goes}
use Rattle.session_poll.specs.Errors.{Rejects}
use Rattle.session_poll.specs.Parts.{Keeps, KeepsState, Takes}
use Rattle.session_poll.specs.Session.{state_of, waiting_of}
use Rattle.session_poll.specs.StartUps.{is_taken, welcome, Welcomes, StartsUp}
use Rattle.session_poll.specs.State.{State, in_phase, status_of}
use Rattle.session_poll.specs.Steps.{RefusesStart}
use Rattle.session_poll.specs.declared.session.Session.{Session}
use Rattle.session_poll.specs.declared.state.Phase.TheVariants as phases
use Rattle.session_replies.specs.Replies.{out_of_memory, spelled}
use Rattle.session_transactions.specs.Transactions.{transaction_of}
use Rattle.store_states.specs.Stored.{Stored}
use Rattle.vschema.specs.declared.catalog.Catalog.{Catalog}

pub welcomed : (old mid new : Session) (store : Stored) → waiting_of mid ≡ waiting_of old ++ spelled (welcome store.catalog (status_of (transaction_of old.transaction))) → KeepsState old mid → new.phase ≡ phases.Ready → new.transaction ≡ mid.transaction → new.output ≡ mid.output → Keeps mid new → Takes Welcomes old store new store
welcomed old mid new store put keeps phase same output more = record {
  course = goes [] (welcome store.catalog (status_of (transaction_of old.transaction))) (in_phase phases.Ready (state_of old));
  rule_is = λ opening is. inl (ap (λ (k : Catalog). goes [] (welcome k (status_of (transaction_of old.transaction))) (in_phase phases.Ready (state_of old))) is.catalog);
  state = ap (λ p. record { phase = p; transaction = transaction_of new.transaction }) phase ∙ ap (λ it. record { phase = phases.Ready; transaction = transaction_of it }) (same ∙ keeps.transaction);
  put = ap (λ o. o.bytes) output ∙ put;
  keeps = keeps_on old mid new keeps.input more;
  goes = goes_same old new store (same ∙ keeps.transaction);
}

pub refused : (old new : Session) (store : Stored) → waiting_of new ≡ waiting_of old ++ spelled (out_of_memory ∷ []) → KeepsState old new → Takes RefusesStart old store new store
refused old new store put keeps = record {
  course = goes [] (out_of_memory ∷ []) (state_of old);
  rule_is = λ opening is. refl;
  state = state_kept old new keeps;
  put = put;
  keeps = keeps.input;
  goes = goes_same old new store keeps.transaction;
}

pub not_welcomed : (old mid new : Session) (store : Stored) → waiting_of mid ≡ waiting_of old → KeepsState old mid → waiting_of new ≡ waiting_of mid ++ spelled (out_of_memory ∷ []) → KeepsState mid new → Takes Welcomes old store new store
not_welcomed old mid new store m keeps put more =
    takes_as RefusesStart Welcomes old store new store (λ opening c r. inr r)
    (refused old new store (put ∙ ap (λ (b : List ℕ). b ++ spelled (out_of_memory ∷ [])) m) (record {
      phase = more.phase ∙ keeps.phase;
      transaction = more.transaction ∙ keeps.transaction;
      input = record { held = more.input.held ∙ keeps.input.held; over = more.input.over ∙ keeps.input.over };
    }))

if_true : (b : Bool) (P Q : Type 0) → b ≡ true → P → MatchBool b P Q
if_true true P Q is p = p
if_true false P Q is p = absurd (true≢false (sym is))

if_false : (b : Bool) (P Q : Type 0) → b ≡ false → Q → MatchBool b P Q
if_false true P Q is q = absurd (true≢false is)
if_false false P Q is q = q

pub starts_up : (packet : Startup) (old new : Session) (before after : Stored) → is_taken packet ≡ true → Takes Welcomes old before new after → Takes (StartsUp packet) old before new after
starts_up packet old new before after is t =
    takes_as Welcomes (StartsUp packet) old before new after (λ opening c r. if_true (is_taken packet) (Welcomes opening (state_of old) c) (Rejects opening (state_of old) c) is r) t

pub starts_not : (packet : Startup) (old new : Session) (before after : Stored) → is_taken packet ≡ false → Takes Rejects old before new after → Takes (StartsUp packet) old before new after
starts_not packet old new before after is t =
    takes_as Rejects (StartsUp packet) old before new after (λ opening c r. if_false (is_taken packet) (Welcomes opening (state_of old) c) (Rejects opening (state_of old) c) is r) t
