use Rattle.std.proofs.Common.{◌≡◌, ◌<◌, ◌∙◌, length, slice_get, Some, refl, sym, ap, subst}
use Rattle.snapshot_store.proofs.StandLaws.{advanced_by, stands}
use Rattle.snapshot_store.specs.Parts.{Applies}
use Rattle.store_states.specs.Stored.{Stored, log_of, stored}
use Rattle.snapshot_store.proofs.store.Store.apply_at.Goals as goal

-- src/apply.rt
pub invariant_of-self-2 : goal.invariant_of-self-2
invariant_of-self-2 g c =
    let it = c.self.inside in
    let kept = g.K.Keeper.kept it.keeper in
    let at : c.args.place ≡ it.versions.applied = c.requires.next ∙ sym (ap (λ (s : Stored). s.rows.applied) c.self.view_is) in
    let there : it.versions.applied < length kept.seen = subst (λ n. n < length kept.seen) at (subst (λ (s : Stored). c.args.place < length (log_of s)) (sym c.self.view_is) c.requires.seen) in
    stands it.model (stored kept it.loop_no it.next it.live it.catalog it.versions) (stored kept it.loop_no it.next it.live it.catalog c.clean.new.self) c.self.invariant
    (advanced_by kept it.loop_no it.next it.next it.live it.catalog it.versions c.apply_commit.new.versions c.clean.new.self c.oldest.result c.oldest.ensures c.known.ensures there c.self.invariant.tidy.own
    (c.in_ok-apply_commit.ensures.ok kept.seen (subst (λ n. slice_get kept.seen n ≡ Some c.commit-commit.result.now) at c.commit-commit.ensures)) c.clean.ensures.columns c.clean.ensures.applied c.clean.ensures.versions c.self.invariant.tidy)

pub returns-clause-applies : goal.returns-clause-applies
returns-clause-applies g c =
    let it = c.self.inside in
    let kept = g.K.Keeper.kept it.keeper in
    let at : c.args.place ≡ it.versions.applied = c.requires.next ∙ sym (ap (λ (s : Stored). s.rows.applied) c.self.view_is) in
    let there : it.versions.applied < length kept.seen = subst (λ n. n < length kept.seen) at (subst (λ (s : Stored). c.args.place < length (log_of s)) (sym c.self.view_is) c.requires.seen) in
    subst (λ s. Applies s (stored kept it.loop_no it.next it.live it.catalog c.clean.new.self)) c.self.view_is
    (record {
      leaves = (advanced_by kept it.loop_no it.next it.next it.live it.catalog it.versions c.apply_commit.new.versions c.clean.new.self c.oldest.result c.oldest.ensures c.known.ensures there c.self.invariant.tidy.own
          (c.in_ok-apply_commit.ensures.ok kept.seen (subst (λ n. slice_get kept.seen n ≡ Some c.commit-commit.result.now) at c.commit-commit.ensures)) c.clean.ensures.columns c.clean.ensures.applied c.clean.ensures.versions c.self.invariant.tidy).leaves;
      moment = refl;
      live = refl;
    })
