use Rattle.std.proofs.Common.{◌≡◌, ◌∙◌, length, refl, sym, ap, subst}
use Rattle.snapshot_store.proofs.AppendLaws.{appended_applied, appended_step}
use Rattle.snapshot_store.proofs.StandLaws.{stands}
use Rattle.snapshot_store.specs.Commits.{IsAppended}
use Rattle.store_states.specs.Stored.{Stored, log_of, stored}
use Rattle.snapshot_store.proofs.store.Store.append.Goals as goal

-- src/commit.rt
pub invariant_of-self : goal.invariant_of-self
invariant_of-self g c =
    let it = c.self.inside in
    let kept = g.K.Keeper.kept it.keeper in
    let after = g.K.Keeper.kept c.append_commit-answer.new.keeper in
    let at : it.versions.applied ≡ length kept.seen = ap (λ (s : Stored). s.rows.applied) c.self.view_is ∙ c.requires.applied ∙ sym (ap (λ (s : Stored). length (log_of s)) c.self.view_is) in
    stands it.model (stored kept it.loop_no it.next it.live it.catalog it.versions) (stored after it.loop_no c.next_after-self-inside.result it.live it.catalog c.clean.new.self) c.self.invariant
    (appended_step kept after it.loop_no it.next c.next_after-self-inside.result it.live it.catalog it.versions c.append_commit-answer.new.versions c.clean.new.self c.oldest.result c.args.commit c.oldest.ensures c.known.ensures at
    c.append_commit-answer.ensures.lasts c.clean.ensures.columns c.clean.ensures.next c.clean.ensures.applied c.clean.ensures.versions c.self.invariant.tidy c.append_commit-answer.result c.append_commit-answer.ensures.added
    c.append_commit-answer.ensures.versions c.next_after-self-inside.ensures)

pub returns : goal.returns
returns g c =
    let it = c.self.inside in
    let kept = g.K.Keeper.kept it.keeper in
    let after = g.K.Keeper.kept c.append_commit-answer.new.keeper in
    let at : it.versions.applied ≡ length kept.seen = ap (λ (s : Stored). s.rows.applied) c.self.view_is ∙ c.requires.applied ∙ sym (ap (λ (s : Stored). length (log_of s)) c.self.view_is) in
    subst (λ s. IsAppended s c.args.commit c.append_commit-answer.result (stored after it.loop_no c.next_after-self-inside.result it.live it.catalog c.clean.new.self)) c.self.view_is
    (record {
      leaves = (appended_step kept after it.loop_no it.next c.next_after-self-inside.result it.live it.catalog it.versions c.append_commit-answer.new.versions c.clean.new.self c.oldest.result c.args.commit c.oldest.ensures c.known.ensures at
          c.append_commit-answer.ensures.lasts c.clean.ensures.columns c.clean.ensures.next c.clean.ensures.applied c.clean.ensures.versions c.self.invariant.tidy c.append_commit-answer.result c.append_commit-answer.ensures.added
          c.append_commit-answer.ensures.versions c.next_after-self-inside.ensures).leaves;
      added = c.append_commit-answer.ensures.added;
      next = c.next_after-self-inside.ensures;
      live = refl;
      applied = appended_applied kept after it.loop_no it.next c.next_after-self-inside.result it.live it.catalog it.versions c.append_commit-answer.new.versions c.clean.new.self c.oldest.result c.args.commit c.oldest.ensures c.known.ensures at
          c.append_commit-answer.ensures.lasts c.clean.ensures.columns c.clean.ensures.next c.clean.ensures.applied c.clean.ensures.versions c.self.invariant.tidy c.append_commit-answer.result c.append_commit-answer.ensures.added
          c.append_commit-answer.ensures.versions;
    })
