use Rattle.std.proofs.Common.{◌<◌, ◌∷◌, [], ◌++◌, length, append_assoc, refl, sym, ◌∙◌, ap, subst}
use Rattle.row_versions.proofs.TakingLaws.{alike_many, opening_none, within_last}
use Rattle.row_versions.specs.Changing.{AreWithin}
use Rattle.row_versions.specs.Waiting.{changes_of}
use Rattle.row_versions.proofs.held.open_all.Goals as goal

-- src/held.rt
pub loop-change-init : goal.loop-change-init
loop-change-init c =
    let held = c.args.held.now in
    let none = opening_none c.args.waiting.now.items held.tables.items held.marks.items c.args.changes c.requires.none in
    (none.0, none.1, refl, alike_many held.marks.items held.tables.items c.requires.alike, c.requires.alike, c.requires.within, none.2, none.3, none.4, refl, refl)

pub open-requires-clause-place : goal.open-requires-clause-place
open-requires-clause-place c =
    let n = length c.args.held.now.tables.items in
    subst (λ n. c.in-Some.change.table < n) (sym c.loop-change.invariant.2) (within_last n c.pop.new.self c.in-Some.change (subst (AreWithin n) c.in-Some.ensures c.loop-change.invariant.5)).1

pub open-requires-clause-marks_place : goal.open-requires-clause-marks_place
open-requires-clause-marks_place c =
    let n = length c.args.held.now.tables.items in
    subst (λ n. c.in-Some.change.table < n) (sym c.loop-change.invariant.3) (within_last n c.pop.new.self c.in-Some.change (subst (AreWithin n) c.in-Some.ensures c.loop-change.invariant.5)).1

pub loop-change-preserved : goal.loop-change-preserved
loop-change-preserved c =
    let before = c.loop-change.invariant in
    let last = c.in-Some.change in
    let left = c.pop.new.self in
    let rest = changes_of c.loop-change.waiting.items in
    let n = length c.args.held.now.tables.items in
    let within = within_last n left last (subst (AreWithin n) c.in-Some.ensures before.5) in
    let after = c.in_ok-open.ensures in (
      after.tables ∙ before.0,
      after.marks ∙ before.1,
      after.many ∙ before.2,
      after.many_marks ∙ before.3,
      after.alike,
      within.0,
      after.within n within.1 before.6,
      ap (λ xs. left ++ xs) after.changes ∙ sym (append_assoc left (last ∷ []) rest) ∙ ap (λ xs. xs ++ rest) (sym c.in-Some.ensures) ∙ before.7,
      after.room before.8,
      after.ended ∙ before.9,
      after.next ∙ before.10,
    )

pub returns-in_err-open-clause-within : goal.returns-in_err-open-clause-within
returns-in_err-open-clause-within c =
    let n = length c.args.held.now.tables.items in
    c.open.ensures.within n (within_last n c.pop.new.self c.in-Some.change (subst (AreWithin n) c.in-Some.ensures c.loop-change.invariant.5)).1 c.loop-change.invariant.6
