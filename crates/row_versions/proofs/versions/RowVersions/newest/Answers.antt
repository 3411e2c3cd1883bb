use Rattle.std.proofs.Common.{◌≡◌, subst}
use Rattle.row_versions.proofs.HoldingLaws.{newest_are}
use Rattle.row_versions.specs.Stored.{Stored, newest_tables}
use Rattle.row_versions.proofs.versions.RowVersions.newest.Goals as goal

-- src/versions.rt
pub returns : goal.returns
returns c =
    let it = c.self.inside in
    subst (λ (s : Stored). it.newest.tables ≡ newest_tables 0 s.columns s.versions) c.self.view_is
    (newest_are it.ended.items it.marks it.newest.tables it.next it.applied c.self.invariant)
