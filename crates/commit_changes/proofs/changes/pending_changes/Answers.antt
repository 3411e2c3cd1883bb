use Rattle.std.proofs.Common.{◌≡◌, ◌∙◌, ◌∷◌, List, arith, refl, rules, subst, sym}
use Rattle.std.proofs.lemmas.List.{nil_from_length}
use Rattle.commit_changes.proofs.CommitLaws.{each_end, each_idle, each_more}
use Rattle.commit_changes.proofs.PendingLaws.{idle_pending}
use Rattle.commit_changes.proofs.PutLaws.{written_carried, written_pending}
use Rattle.commit_changes.proofs.changes.pending_changes.Goals as goal
use Rattle.commit_changes.specs.Carried.{CarriesEach}
use Rattle.commit_changes.specs.Made.{IsWritten}
use Rattle.commit_changes.specs.Stored.{ArePending}
use Rattle.feature_expr.specs.declared.expr.Expr.{Expr}
use Rattle.table_changes.specs.declared.change.TableChange.{TableChange}
use Rattle.vra_syntax.specs.declared.write.Write.{Write}

pub loop-write-init : goal.loop-write-init
loop-write-init c =
    let model = c.args.questions.now in
    let tables = c.args.tables.now.tables.now in
    let newest = c.args.newest.now in (
      refl,
      subst (λ (changes : List TableChange). ArePending 0 newest changes) (sym c.in_ok-pending.ensures) (idle_pending 0 tables newest c.requires.stored),
      λ end it. each_idle model tables c.args.writes.now newest end (subst (λ (changes : List TableChange). CarriesEach model tables c.args.writes.now newest changes end) c.in_ok-pending.ensures it),
    )

pub loop-write-preserved : goal.loop-write-preserved
loop-write-preserved c =
    let model = c.args.questions.now in
    let tables = c.args.tables.now.tables.now in
    let newest = c.args.newest.now in
    let w = c.in-Some.write.now in
    let more = c.in-Some.more.now in
    let old = c.loop-write.pending.items in
    let new = c.put_write.new.pending.items in
    let are = c.loop-write.invariant.1 in
    let split : c.loop-write.writes.now ≡ w ∷ more = search rules in
    let written : IsWritten model tables newest w old new = subst (λ (m : Expr). IsWritten m tables newest w old new) c.loop-write.invariant.0 c.in_ok-put_write.ensures.written in (
      c.in_ok-put_write.ensures.same ∙ c.loop-write.invariant.0,
      written_pending model tables newest w old new are written,
      λ end it. c.loop-write.invariant.2 end
          (subst (λ (ws : List Write). CarriesEach model tables ws newest old end) (sym split) (each_more model tables w more newest old new end (written_carried model tables newest w old new are written) it)),
    )

pub returns-clause-carried : goal.returns-clause-carried
returns-clause-carried c =
    each_end c.args.questions.now c.args.tables.now.tables.now c.loop-write.writes.now c.args.writes.now c.args.newest.now c.loop-write.pending.items
    (nil_from_length c.loop-write.writes.now (search (arith, rules))) c.loop-write.invariant.2
