use Rattle.std.proofs.Common.{◌∙◌, sym}
use Rattle.query_names.proofs.ColumnLaws.{among_here}
use Rattle.query_names.specs.Headings.{heading}
use Rattle.query_names.proofs.columns.stands_at.Goals as goal

pub returns-in-Some : goal.returns-in-Some
returns-in-Some c = λ h. among_here c.args.columns.now c.args.place c.in-Some.other.now (heading c.args.column.now) c.in-Some.ensures.lookup.3.0 c.in-Some.ensures.lookup.1 (sym c.is_same.ensures ∙ h)
