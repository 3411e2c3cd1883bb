use Rattle.std.proofs.Common.{◌+◌, length, ◌∙◌, sym, ap, ap₂}
use Rattle.row_versions.proofs.CountLaws.{held_count, within_held}
use Rattle.row_versions.specs.Stored.{Stored, row_count}
use Rattle.row_versions.proofs.versions.RowVersions.kept.Goals as goal

-- src/versions.rt
pub kept-requires : goal.kept-requires
kept-requires c =
    let it = c.self.inside in
    within_held it.ended.items it.marks it.newest.tables c.as_slice.result.now it.next it.applied c.len.result c.self.invariant (c.len.ensures ∙ it.ended.ok.0) c.as_slice.ensures

pub returns : goal.returns
returns c =
    let it = c.self.inside in
    c.kept.ensures ∙ ap₂ (λ m tables. m + row_count tables) (c.len.ensures ∙ it.ended.ok.0) c.as_slice.ensures
    ∙ sym (held_count it.ended.items it.marks it.newest.tables it.next it.applied c.self.invariant)
    ∙ ap (λ (s : Stored). length s.versions) c.self.view_is
