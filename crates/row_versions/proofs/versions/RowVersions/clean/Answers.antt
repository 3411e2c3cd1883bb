use Rattle.std.proofs.Common.{◌∙◌, ap}
use Rattle.row_versions.proofs.HoldingLaws.{cleaned_held, cleaned_holding}
use Rattle.row_versions.specs.Stored.{Stored}
use Rattle.version_lists.specs.Versions.{cleaned}
use Rattle.row_versions.proofs.versions.RowVersions.clean.Goals as goal

-- src/versions.rt
pub invariant_of-self : goal.invariant_of-self
invariant_of-self c =
    let it = c.self.inside in
    cleaned_holding c.args.oldest it.ended.items c.drop_ended.new.ended.items it.marks it.newest.tables it.next it.applied c.drop_ended.ensures c.self.invariant

pub returns-clause-versions : goal.returns-clause-versions
returns-clause-versions c =
    let it = c.self.inside in
    cleaned_held c.args.oldest it.ended.items c.drop_ended.new.ended.items it.marks it.newest.tables c.drop_ended.ensures
    ∙ ap (λ (s : Stored). cleaned c.args.oldest s.versions) c.self.view_is
