use Rattle.std.proofs.Common.{◌∙◌, sym, ap, subst}
use Rattle.row_versions.proofs.OpeningLaws.{opening_holding}
use Rattle.row_versions.specs.Holdings.{IsHolding}
use Rattle.row_versions.specs.Openings.{first_marks}
use Rattle.row_versions.specs.Stored.{row_count}
use Rattle.row_versions.proofs.versions.RowVersions.new.Goals as goal

-- src/versions.rt
pub invariant_of-result : goal.invariant_of-result
invariant_of-result c =
    let it = c.in_ok-marks in
    subst (λ ended. IsHolding ended it.marks c.args.rows.tables it.next 0) (sym c.new.ensures.items)
    (opening_holding it.marks c.args.rows.tables it.next c.requires (it.ensures.marks ∙ ap (first_marks 0) c.as_slice.ensures) (it.ensures.next ∙ ap row_count c.as_slice.ensures))
