-- The log of a replay: nobody else adds to it.
use Rattle.std.proofs.Common.{◌≡◌, ◌∙◌, ℕ, zero, suc, ◌+◌, ◌<◌, ◌≤◌, List, [], ◌∷◌, ◌++◌, length, Option, refl, sym, ap, subst, arith, append-nil}
use Rattle.causes.specs.Faults.{Rose}
use Rattle.commit_log.specs.Kept.{Kept, Lasts}
use Rattle.commit_log.specs.Places.{own_kept, up_to}
use Rattle.commit_log.specs.declared.commit.Commit.{Commit}
use Rattle.session_poll.specs.Runs.{events_of}
use Rattle.session_transactions.proofs.GoingLaws.{longer, ties_itself}
use Rattle.top_calls.proofs.ReplayLaws.{from_nothing}
use Rattle.session_transactions.specs.Goings.{Goes}
use Rattle.store_events.proofs.LineLaws.{fresh_line}
use Rattle.store_events.proofs.TieLaws.{ties_on}
use Rattle.store_events.specs.Events.{Event, places}
use Rattle.store_events.specs.Lines.{Ascends}
use Rattle.store_events.specs.Ties.{Moment, Ties}
use Rattle.store_states.specs.Promises.{Opens}
use Rattle.store_states.specs.Stored.{Stored}
use Rattle.store_states.specs.Views.{IsStore}
use Rattle.stored_versions.specs.Openings.{Opening}
use Rattle.top_calls.specs.Replays.{Replays, ReplaysAll, ReplaysAllFrom, ReplaysFrom, first_moment, log_limit}

-- a log in memory never failed
pub never_failed : (before after : Kept) → Rose before.faults after.faults → after ≡ own_kept after.seen after.most 0 → ⊥
never_failed before after rose own = let none : after.faults ≡ 0 = ap (λ (k : Kept). k.faults) own in omega (arith, rose, none)

ascends_front : (low : ℕ) (xs ys : List ℕ) → Ascends low (xs ++ ys) → Ascends low xs
ascends_front low [] ys is = tt
ascends_front low (x ∷ xs) ys is = (is.0, ascends_front x xs ys is.1)

-- the places from 1 on are above nothing but 0
first_above : (low n : ℕ) → Ascends low (up_to (suc n)) → low < 1
first_above low zero is = is.0
first_above low (suc n) is = first_above low n (ascends_front low (up_to (suc n)) (suc (suc n) ∷ []) is)

above_none : (low n : ℕ) → low ≤ n → Ascends low (up_to n) → low ≡ 0
above_none low zero within is = omega (arith, within)
above_none low (suc n) within is = let less = first_above low n is in omega (arith, less)

none_left : {X : Type 0} (xs : List X) → length xs ≡ 0 → xs ≡ []
none_left [] is = refl
none_left (x ∷ xs) is = absurd (omega (arith, is))

-- the log was empty at the first moment, since each place is one of the run's
began_empty : (first last : Moment) (events : List Event) → first.kept.own ≡ [] → Ties first events last → last.kept ≡ own_kept last.kept.seen log_limit 0 → first.kept.seen ≡ []
began_empty first last events none ties alone =
    let own : up_to (length last.kept.seen) ≡ places events = sym (ap (λ (k : Kept). k.own) alone) ∙ ties.own ∙ ap (λ (o : List ℕ). o ++ places events) none in
    let line = (fresh_line (length first.kept.seen) (length last.kept.seen) events ties.rising).own_once in
    none_left first.kept.seen (above_none (length first.kept.seen) (length last.kept.seen) (longer first.kept last.kept ties.lasts) (subst (λ (p : List ℕ). Ascends (length first.kept.seen) p) (sym own) line))

kept_is : (kept : Kept) → kept.seen ≡ [] → kept.own ≡ [] → kept.faults ≡ 0 → kept.most ≡ log_limit → kept.lent ≡ [] → kept ≡ own_kept [] log_limit 0
kept_is kept s o f m l =
    ap (λ (x : List Commit). record { seen = x; own = kept.own; faults = kept.faults; most = kept.most; lent = kept.lent }) s
    ∙ ap (λ (x : List ℕ). record { seen = []; own = x; faults = kept.faults; most = kept.most; lent = kept.lent }) o
    ∙ ap (λ (x : ℕ). record { seen = []; own = []; faults = x; most = kept.most; lent = kept.lent }) f
    ∙ ap (λ (x : ℕ). record { seen = []; own = []; faults = 0; most = x; lent = kept.lent }) m
    ∙ ap (λ (x : List ℕ). record { seen = []; own = []; faults = 0; most = log_limit; lent = x }) l

moment_is : (it : Moment) → it.kept ≡ own_kept [] log_limit 0 → it.loop_no ≡ 0 → it.next ≡ 0 → it ≡ first_moment
moment_is it k l n =
    ap (λ (x : Kept). record { kept = x; loop_no = it.loop_no; next = it.next }) k
    ∙ ap (λ (x : ℕ). record { kept = own_kept [] log_limit 0; loop_no = x; next = it.next }) l
    ∙ ap (λ (x : ℕ). record { kept = own_kept [] log_limit 0; loop_no = 0; next = x }) n

began_first : (opening : Opening) (store : Stored) (last : Moment) (events : List Event) → Opens opening (own_kept [] log_limit 0) 0 store → Ties store.moment events last → last.kept ≡ own_kept last.kept.seen log_limit 0 → store.moment ≡ first_moment
began_first opening store last events opens ties alone =
    let empty = began_empty store.moment last events opens.own ties alone in
    let quiet : last.kept.faults ≡ 0 = ap (λ (k : Kept). k.faults) alone in
    let later = ties.lasts.later in
    moment_is store.moment
    (kept_is store.moment.kept empty opens.own (omega (arith, quiet, later)) opens.lasts.most opens.lasts.lent)
    opens.loop_is (opens.next ∙ ap (λ (l : List Commit). length l) empty)

-- the log's greatest number stays
alone_is : (opening : Opening) (store : Stored) (last : Moment) (events : List Event) → Opens opening (own_kept [] log_limit 0) 0 store → Ties store.moment events last → last.kept ≡ own_kept last.kept.seen last.kept.most 0 → last.kept ≡ own_kept last.kept.seen log_limit 0
alone_is opening store last events opens ties own = own ∙ ap (λ most. own_kept last.kept.seen most 0) (ties.lasts.most ∙ opens.lasts.most)

-- up to a moment, and then nothing more was answered
ties_end : (first mid last : Moment) (events : List Event) → Ties first events mid → Ties mid [] last → Ties first events last
ties_end first mid last events one two = subst (λ (e : List Event). Ties first e last) (append-nil events) (ties_on first mid last events [] one two)

replays_to : (opening : Opening) (stream : List ℕ) (store : Stored) (mid last : Moment) (before after : Option (List ℕ)) → Opens opening (own_kept [] log_limit 0) 0 store → ReplaysFrom opening stream store.moment mid before after → Ties mid [] last → last.kept ≡ own_kept last.kept.seen last.kept.most 0 → Replays opening stream before after
replays_to opening stream store mid last before after opens r more own =
    let ties = ties_end store.moment mid last (events_of r.run) r.ties more in
    let alone = alone_is opening store last (events_of r.run) opens ties own in
    record {
      run = r.run;
      is_run = r.is_run;
      last = last;
      ties = subst (λ m. Ties m (events_of r.run) last) (began_first opening store last (events_of r.run) opens ties alone) ties;
      own_alone = alone;
      rest = r.rest;
      input = r.input;
      sent = r.sent;
      unsent = r.unsent;
      output = r.output;
      put = r.put;
    }

-- nobody else added to the log, so the run is that of a log of its own
pub replays_alone : (stream : List ℕ) (store closed : Stored) (mid : Moment) (before after : Option (List ℕ)) → ((opening : Opening) → IsStore opening store → ReplaysFrom opening stream store.moment mid before after) → Ties mid [] closed.moment → closed.moment.kept ≡ own_kept closed.moment.kept.seen closed.moment.kept.most 0 → (opening : Opening) → Opens opening (own_kept [] log_limit 0) 0 store → Replays opening stream before after
replays_alone stream store closed mid before after all more own opening opens = replays_to opening stream store mid closed.moment before after opens (all opening opens.is_store) more own

pub replays_all_alone : (stream : List ℕ) (store closed : Stored) (mid : Moment) (before after : Option (List ℕ)) → ((opening : Opening) → IsStore opening store → ReplaysAllFrom opening stream store.moment mid before after) → Ties mid [] closed.moment → closed.moment.kept ≡ own_kept closed.moment.kept.seen closed.moment.kept.most 0 → (opening : Opening) → Opens opening (own_kept [] log_limit 0) 0 store → ReplaysAll opening stream before after
unfolding replays_to
replays_all_alone stream store closed mid before after all more own opening opens =
    let whole = all opening opens.is_store in
    record {
      begun = replays_to opening stream store mid closed.moment before after opens whole.begun more own;
      whole = record { sent_all = whole.sent_all; read_out = whole.read_out };
    }

-- nothing was run
pub replays_nothing : (stream : List ℕ) (store : Stored) (now : Option (List ℕ)) → store.moment.kept ≡ own_kept store.moment.kept.seen store.moment.kept.most 0 → (opening : Opening) → Opens opening (own_kept [] log_limit 0) 0 store → Replays opening stream now now
replays_nothing stream store now own opening opens =
    replays_to opening stream store store.moment store.moment now now opens (from_nothing opening stream store.moment now) (ties_itself store.moment) own

-- what a log in memory is by itself
pub own_of : (seen : List Commit) (most : ℕ) (kept : Kept) → own_kept seen most 0 ≡ kept → kept ≡ own_kept kept.seen kept.most 0
own_of seen most kept is = subst (λ k. k ≡ own_kept k.seen k.most 0) is refl
