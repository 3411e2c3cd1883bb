use Rattle.std.proofs.Common.{◌∙◌, sym}
use Rattle.query_names.proofs.ColumnLaws.{among_here}
use Rattle.query_names.specs.Headings.{heading}
use Rattle.query_names.proofs.columns.is_among.Goals as goal

pub returns-then-is_same : goal.returns-then-is_same
returns-then-is_same c = sym (among_here c.args.columns.now c.loop-other.other-index c.other-item.result (heading c.args.column.now) c.loop-other-test.true c.other-item.is (sym c.is_same.ensures ∙ c.if-is_same.true))
