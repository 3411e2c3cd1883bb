-- How a transaction begins and ends: what the store answered, and what it leaves.
use Rattle.std.proofs.Common.{◌≡◌, ◌≢◌, ◌∙◌, ◌⊎◌, inl, inr, ℕ, ◌+◌, List, [], ◌∷◌, ◌++◌, Some, None, drop, length, refl, sym, ap, subst, arith, append-nil, length-append}
use Rattle.commit_log.specs.Kept.{IsNotIn, Lasts}
use Rattle.live_snapshots.specs.Snapshots.{IsLive, NoMark, Seen, without}
use Rattle.session_transactions.proofs.GoingLaws.{goes_without, longer, released_ties, ties_itself}
use Rattle.session_transactions.specs.Goings.{Goes, IsApart, IsOwn}
use Rattle.session_transactions.specs.Outcomes.{EndsAs, IsBegun, IsEndOf, Spends, answered, refused_events}
use Rattle.session_transactions.specs.declared.ending.Ending.{Ending}
use Rattle.session_transactions.specs.declared.ending.Ending.TheVariants as ending
use Rattle.session_transactions.specs.declared.transaction.Transaction.{Transaction as Held}
use Rattle.session_transactions.specs.declared.transaction.Transaction.TheVariants as held
use Rattle.snapshot_store.specs.Commits.{Answers, Back, Commits, Conflicts, IsAlone}
use Rattle.snapshot_store.specs.Parts.{RefusesBegin}
use Rattle.snapshot_store.specs.declared.answers.BeginRefused.{BeginRefused}
use Rattle.snapshot_store.specs.declared.answers.BeginRefused.TheVariants as refused
use Rattle.snapshot_store.specs.declared.answers.CommitAnswer.TheVariants as answer
use Rattle.store_events.specs.Events.{Event, Event as event}
use Rattle.store_events.specs.Ties.{Moment, Ties}
use Rattle.store_states.proofs.StepLaws.{leaves_on}
use Rattle.store_states.specs.Promises.{Begins, Leaves, Releases}
use Rattle.store_states.specs.Stored.{Stored, log_of}
use Rattle.stored_versions.proofs.ConflictLaws.{conflict_found, none_found}
use Rattle.vra_syntax.specs.declared.write.Write.{Write}

-- ---- it begins

later : (live : List Seen) (snap one other : Seen) → IsLive live other ⊎ (snap.0 ≡ other.0) → IsLive (one ∷ live) other ⊎ (snap.0 ≡ other.0)
later live snap one other (inl h) = inl (inr h)
later live snap one other (inr own) = inr own

more_by : (live : List Seen) (snap other : Seen) → IsLive (live ++ snap ∷ []) other → IsLive live other ⊎ (snap.0 ≡ other.0)
more_by [] snap other (inl same) = inr (ap (λ (s : Seen). s.0) same)
more_by [] snap other (inr h) = absurd h
more_by (one ∷ live) snap other (inl same) = inl (inl same)
more_by (one ∷ live) snap other (inr h) = later live snap one other (more_by live snap other h)

was_more : (live : List Seen) (snap other : Seen) → IsLive live other → IsLive (live ++ snap ∷ []) other
was_more [] snap other h = absurd h
was_more (one ∷ live) snap other (inl same) = inl same
was_more (one ∷ live) snap other (inr h) = inr (was_more live snap other h)

is_last : (live : List Seen) (snap : Seen) → IsLive (live ++ snap ∷ []) snap
is_last [] snap = inl refl
is_last (one ∷ live) snap = inr (is_last live snap)

fresh_apart : (live : List Seen) (snap other : Seen) → NoMark snap.0 live → IsLive live other → snap.0 ≢ other.0
fresh_apart [] snap other fresh h = absurd h
fresh_apart (one ∷ live) snap other fresh (inl same) = λ own. fresh.0 (ap (λ (s : Seen). s.0) same ∙ sym own)
fresh_apart (one ∷ live) snap other fresh (inr h) = fresh_apart live snap other fresh.1 h

begun_live : (before after : Stored) (snap other : Seen) → IsLive before.live other ⊎ (snap.0 ≡ other.0) → (IsLive before.live other × IsApart None other) ⊎ IsOwn (Some snap) other
begun_live before after snap other (inl h) = inl (h, tt)
begun_live before after snap other (inr own) = inr own

pub begun_goes : (before after : Stored) (snap : Seen) → Leaves before after → Begins before snap after → Goes held.Idle before (event.Begun snap.1 ∷ []) (held.Implicit snap []) after
begun_goes before after snap leaves begins = record {
  leaves = leaves;
  ties = record {
    lasts = leaves.lasts;
    fit = (let n = begins.number in omega (arith, n), tt);
    rising = let n = begins.number in let more = longer before.moment.kept after.moment.kept leaves.lasts in (omega (arith, n, more), omega (arith, n));
    own = begins.own ∙ sym (append-nil before.moment.kept.own);
    loop_is = leaves.loop_is;
    numbered = begins.next;
  };
  fits = λ h. record { held = subst (λ live. IsLive live snap) (sym begins.live) (is_last before.live snap); taken = refl };
  others = λ other there apart. (
    subst (λ live. IsLive live other) (sym begins.live) (was_more before.live snap other there),
    fresh_apart before.live snap other begins.fresh there,
  );
  live = λ other there. begun_live before after snap other (more_by before.live snap other (subst (λ live. IsLive live other) begins.live there));
}

pub begins_over : (old : Held) (before after : Stored) (snap : Seen) (writes : List Write) (n : ℕ) → old ≡ held.Idle → n ≡ snap.1 → writes ≡ [] → Leaves before after → Begins before snap after → IsBegun old before n (held.Implicit snap writes) after
begins_over old before after snap writes n idle number none leaves begins =
    subst (λ old. IsBegun old before n (held.Implicit snap writes) after) (sym idle)
    (subst (λ n. IsBegun held.Idle before n (held.Implicit snap writes) after) (sym number)
    (subst (λ writes. IsBegun held.Idle before snap.1 (held.Implicit snap writes) after) (sym none)
    (record { was_idle = refl; begun = refl; goes = begun_goes before after snap leaves begins })))

refused_ties : (before after : Stored) (why : BeginRefused) → Leaves before after → RefusesBegin before why after → Ties before.moment (refused_events why) after.moment
refused_ties before after refused.KeeperFault leaves it = record {
  lasts = leaves.lasts;
  fit = (it.1, tt);
  rising = longer before.moment.kept after.moment.kept leaves.lasts;
  own = it.0.own ∙ sym (append-nil before.moment.kept.own);
  loop_is = leaves.loop_is;
  numbered = it.0.next;
}
refused_ties before after refused.Memory leaves it = record {
  lasts = leaves.lasts;
  fit = tt;
  rising = longer before.moment.kept after.moment.kept leaves.lasts;
  own = it.own ∙ sym (append-nil before.moment.kept.own);
  loop_is = leaves.loop_is;
  numbered = it.next;
}

refused_live : (before after : Stored) (why : BeginRefused) → RefusesBegin before why after → after.live ≡ before.live
refused_live before after refused.KeeperFault it = it.0.live
refused_live before after refused.Memory it = it.live

pub refused_goes : (before after : Stored) (why : BeginRefused) → Leaves before after → RefusesBegin before why after → Goes held.Idle before (refused_events why) held.Idle after
refused_goes before after why leaves it =
    let live = refused_live before after why it in
    record {
      leaves = leaves;
      ties = refused_ties before after why leaves it;
      fits = λ h. record { held = tt; taken = refl };
      others = λ other there apart. (subst (λ live. IsLive live other) (sym live) there, tt);
      live = λ other there. inl (subst (λ live. IsLive live other) live there, tt);
    }

-- ---- it ends

ends_with : (old new : Moment) (events : List Event) → Lasts old.kept new.kept → new.loop_no ≡ old.loop_no → new.next ≡ old.next → new.kept.own ≡ old.kept.own → Ties old [] new
ends_with old new events lasts loop next own = record {
  lasts = lasts;
  fit = tt;
  rising = longer old.kept new.kept lasts;
  own = own ∙ sym (append-nil old.kept.own);
  loop_is = loop;
  numbered = next;
}

pub spends_nothing : (before after : Stored) (snap : Seen) (writes : List Write) → writes ≡ [] → Leaves before after → Releases before snap after → Spends before snap writes ending.Nothing after
spends_nothing before after snap writes none leaves released = record {
  which = none;
  leaves = leaves;
  ties = released_ties before after snap released;
  live = released.live;
}

module _ (before : Stored) (snap : Seen) (writes : List Write) (some : writes ≢ []) where
  pub spends_at : (after : Stored) (k : ℕ) → Leaves before after → IsAlone before snap writes → Commits before snap writes k after → Spends before snap writes (ending.At k) after
  spends_at after k leaves alone it =
      let one = ap length it.seen ∙ length-append (log_of before) (record { base = snap.1; loop_no = before.moment.loop_no; sequence = before.moment.next; writes = writes } ∷ []) in
      let place = it.place in
      record {
        which = some;
        leaves = leaves;
        ties = record {
          lasts = leaves.lasts;
          fit = (
            record {
              before = log_of before;
              behind = [];
              log_is = it.seen;
              place_is = it.place ∙ one;
              alone = none_found (drop snap.1 (log_of before)) (snap.1 + 1) writes alone;
            },
            tt,
          );
          rising = (omega (arith, one, place), omega (arith, place));
          own = it.own;
          loop_is = leaves.loop_is;
          numbered = (refl, refl, it.next);
        };
        live = it.live;
      }

  pub spends_conflict : (after : Stored) (table : List ℕ) (k : ℕ) → Leaves before after → Conflicts before snap writes table k after → Spends before snap writes (ending.Conflict table k) after
  spends_conflict after table k leaves it = record {
    which = some;
    leaves = leaves;
    ties = subst (Ties before.moment (event.Conflicted snap.1 writes table k ∷ [])) (sym it.moment) (record {
      lasts = (ties_itself before.moment).lasts;
      fit = (conflict_found (log_of before) snap.1 writes (record { table = table; place = k }) it.found, tt);
      rising = omega arith;
      own = sym (append-nil before.moment.kept.own);
      loop_is = refl;
      numbered = refl;
    });
    live = it.live;
  }

  module _ (mid after : Stored) (given : Seen) (back : List Write) (leaves_mid : Leaves before mid) (leaves_after : Leaves mid after) (released : Releases mid given after) where
    spends_by : (it : Ending) → IsEndOf writes it → Back before mid snap given writes back → Ties before.moment (answered snap.1 writes before.moment it) mid.moment → Spends before snap writes it after
    spends_by it which came ties = record {
      which = which;
      leaves = leaves_on before mid after leaves_mid leaves_after;
      ties = subst (Ties before.moment (answered snap.1 writes before.moment it)) (sym released.moment) ties;
      live = released.live ∙ ap (λ s. without s mid.live) came.same_snap ∙ ap (without snap) came.live;
    }

    pub spends_behind : (k : ℕ) → Answers before snap writes (answer.Behind k given back) mid → Spends before snap writes (ending.Behind k) after
    spends_behind k it =
        let came = it.1.3 in
        let place = it.1.2 in
        let more = ap length came.grown ∙ length-append (log_of before) came.others in
        let several = came.some in
        spends_by (ending.Behind k) some it.1.1 (record {
          lasts = leaves_mid.lasts;
          fit = ((omega (arith, place, more, several), omega (arith, place), subst (λ n. IsNotIn n mid.moment.kept.own) (sym place) came.other), tt);
          rising = (omega (arith, place, more, several), omega (arith, place));
          own = came.own ∙ sym (append-nil before.moment.kept.own);
          loop_is = leaves_mid.loop_is;
          numbered = it.1.1.next;
        })

    pub spends_fault : Answers before snap writes (answer.KeeperFault given back) mid → Spends before snap writes ending.KeeperFault after
    spends_fault it =
        spends_by ending.KeeperFault some it.1.1 (record {
          lasts = leaves_mid.lasts;
          fit = (it.1.2, tt);
          rising = longer before.moment.kept mid.moment.kept leaves_mid.lasts;
          own = it.1.3.own ∙ sym (append-nil before.moment.kept.own);
          loop_is = leaves_mid.loop_is;
          numbered = it.1.1.next;
        })

    pub spends_full : (n : ℕ) → Answers before snap writes (answer.LogFull n given back) mid → Spends before snap writes (ending.LogFull n) after
    spends_full n it =
        spends_by (ending.LogFull n) some it.1.1 (record {
          lasts = leaves_mid.lasts;
          fit = ((it.1.2 ∙ sym leaves_mid.lasts.most, it.1.2 ∙ sym it.1.0 ∙ sym (ap length it.1.3.seen)), tt);
          rising = longer before.moment.kept mid.moment.kept leaves_mid.lasts;
          own = it.1.3.own ∙ sym (append-nil before.moment.kept.own);
          loop_is = leaves_mid.loop_is;
          numbered = it.1.1.next;
        })

    pub spends_memory : Answers before snap writes (answer.Memory given back) mid → Spends before snap writes ending.Memory after
    spends_memory it =
        spends_by ending.Memory some it.0 (record {
          lasts = leaves_mid.lasts;
          fit = tt;
          rising = longer before.moment.kept mid.moment.kept leaves_mid.lasts;
          own = it.1.own ∙ sym (append-nil before.moment.kept.own);
          loop_is = leaves_mid.loop_is;
          numbered = it.0.next;
        })

-- of the transaction
module _ (before after : Stored) (snap : Seen) (writes : List Write) (it : Ending) (spends : Spends before snap writes it after) where
  pub ends_implicit : EndsAs (held.Implicit snap writes) before it held.Idle after
  ends_implicit = record {
    which = spends.which;
    idle = refl;
    goes = goes_without (held.Implicit snap writes) held.Idle before after (answered snap.1 writes before.moment it) snap refl refl refl spends.leaves spends.ties spends.live;
  }

  pub ends_block : EndsAs (held.Block snap writes) before it held.Idle after
  ends_block = record {
    which = spends.which;
    idle = refl;
    goes = goes_without (held.Block snap writes) held.Idle before after (answered snap.1 writes before.moment it) snap refl refl refl spends.leaves spends.ties spends.live;
  }
