use Rattle.std.proofs.Common.{◌≡◌, ◌∙◌, ◌+◌, ◌∷◌, ap, drop, subst, sym}
use Rattle.std.proofs.lemmas.List.{drop_all, drop_more}
use Rattle.commit_changes.proofs.EndLaws.{ends_end, ends_more}
use Rattle.commit_changes.specs.Ends.{IsLookedAt}
use Rattle.commit_changes.proofs.ended.ended_places.Goals as goal
use Rattle.feature_expr.specs.declared.expr.Expr.{Expr}
use Rattle.vtable.specs.declared.table.VRow.{VRow}

pub loop-place-preserved : goal.loop-place-preserved
loop-place-preserved c =
    let row = c.index-rows-place.result in
    let rows = c.args.rows.now in
    let place = c.loop-place.place in
    let split : drop place rows ≡ row ∷ drop (place + 1) rows = drop_more rows place row c.loop-place-test.true ∙ ap (λ (r : VRow). r ∷ drop (place + 1) rows) (sym c.index-rows-place.is) in
    let looked : IsLookedAt c.args.questions.now c.args.table.now c.args.write.now place row c.loop-place.ended.now c.in_ok-ended.ended.now c.loop-place.ends.items c.look_at.new.ends.items c.loop-place.begins.items c.look_at.new.begins.items =
    subst (λ (model : Expr). IsLookedAt model c.args.table.now c.args.write.now place row c.loop-place.ended.now c.in_ok-ended.ended.now c.loop-place.ends.items c.look_at.new.ends.items c.loop-place.begins.items c.look_at.new.begins.items) c.loop-place.invariant.0 c.in_ok-ended.ensures.looked in (
      c.in_ok-ended.ensures.same ∙ c.loop-place.invariant.0,
      ends_more c.args.questions.now c.args.table.now c.args.write.now place row rows c.args.ended.now c.loop-place.ended.now c.in_ok-ended.ended.now c.loop-place.ends.items c.look_at.new.ends.items c.loop-place.begins.items c.look_at.new.begins.items
          c.loop-place-test.true split looked c.loop-place.invariant.1,
    )

pub returns-clause-ends : goal.returns-clause-ends
returns-clause-ends c =
    ends_end c.args.questions.now c.args.table.now c.args.write.now c.loop-place.place (drop c.loop-place.place c.args.rows.now) c.args.rows.now c.args.ended.now c.loop-place.ended.now c.loop-place.ends.items c.loop-place.begins.items
    (drop_all c.loop-place.place c.args.rows.now c.loop-place-test.false) c.loop-place.invariant.1
