use Rattle.std.proofs.Common.{◌≡◌, ◌∙◌, sym, subst}
use Rattle.row_versions.proofs.PreparingLaws.{changed_is, stored_same, tables_alike}
use Rattle.row_versions.specs.Prepared.{stored_back}
use Rattle.row_versions.specs.Stored.{Stored}
use Rattle.row_versions.specs.Waiting.{AreAlike, changes_of, marks_back, tables_back}
use Rattle.row_versions.proofs.versions.RowVersions.prepare.Goals as goal

-- src/versions.rt
pub open_with_room-requires-clause-alike : goal.open_with_room-requires-clause-alike
open_with_room-requires-clause-alike c =
    let it = c.self.inside in
    subst (λ marks. AreAlike marks c.into_vec.result.items) (sym c.into_vec-2.ensures)
    (subst (AreAlike it.marks) (sym c.into_vec.ensures) (tables_alike 0 it.marks it.newest.tables c.self.invariant.marked))

pub returns-in-Ok-clause-ok : goal.returns-in-Ok-clause-ok
returns-in-Ok-clause-ok c =
    let it = c.self.inside in
    let held = c.open_with_room.new.held in
    let waiting = c.open_with_room.new.waiting.items in
    let is = c.in-Ok.ensures in
    let was : Stored = stored_back waiting held.ended.items held.marks.items held.tables.items held.next it.applied in
    let same : was ≡ c.args.self =
    stored_same it.ended.items held.ended.items it.marks (marks_back waiting held.marks.items) it.newest.tables (tables_back waiting held.tables.items) it.next held.next it.applied is.ended (is.marks ∙ c.into_vec-2.ensures)
    (is.tables ∙ c.into_vec.ensures) is.next
    ∙ c.self.view_is in
    (c.of.ensures.before ∙ same, changed_is c.args.changes (changes_of waiting) c.args.self was c.of.result.1 c.requires.rising is.changes same c.of.ensures.after)
