use Rattle.std.proofs.Common.{◌∙◌, sym, ap, ap₂, map}
use Rattle.row_versions.proofs.SeeingLaws.{seen_held}
use Rattle.row_versions.specs.Seeing.{put_all, row_of, seen_table}
use Rattle.row_versions.specs.Stored.{Stored}
use Rattle.version_lists.specs.Versions.{rows_seen}
use Rattle.row_versions.proofs.versions.RowVersions.rows_at.Goals as goal

-- src/versions.rt
pub returns : goal.returns
returns c =
    let it = c.self.inside in
    c.in_ok-seen_rows.ensures
    ∙ ap₂ (λ marks rows. map row_of (put_all c.args.seen c.args.table it.ended.items (seen_table c.args.seen marks rows))) c.get-marks.ensures.item c.get-rows.ensures.item
    ∙ sym (seen_held c.args.seen c.args.table it.ended.items it.marks it.newest.tables it.next it.applied c.self.invariant)
    ∙ ap (λ (s : Stored). rows_seen c.args.seen c.args.table s.versions) c.self.view_is
