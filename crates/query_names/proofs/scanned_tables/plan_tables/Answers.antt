use Rattle.std.proofs.Common.{◌∙◌, subst, sym, length, List, Bool}
use Rattle.query_meaning.specs.Typing.{AreTables}
use Rattle.query_meaning.specs.declared.typed.TableColumns.{TableColumns}
use Rattle.query_names.specs.ScannedTables.{AreMarks}
use Rattle.query_names.proofs.ScanLaws.{are_tables}
use Rattle.query_names.proofs.scanned_tables.plan_tables.Goals as goal

pub returns : goal.returns
returns c = subst (λ (them : List TableColumns). AreTables c.args.tables.now c.args.plan.now them) (sym c.from_vec.ensures) (are_tables c.args.tables.now c.args.plan.now c.as_slice.result.now c.as_slice-2.result.now c.in_ok-them.them.items (c.as_slice.ensures.value ∙ c.in_ok-numbers.ensures) c.requires.known (subst (λ (marks : List Bool). AreMarks (length c.args.tables.now) c.as_slice.result.now marks) (sym c.as_slice-2.ensures.value) c.in_ok-marks.ensures) c.in_ok-them.ensures)
