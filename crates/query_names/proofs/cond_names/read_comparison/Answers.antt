use Rattle.query_names.proofs.OperandLaws.{compared}
use Rattle.query_names.specs.Findings.{cases, facing}
use Rattle.query_names.specs.Headings.{headings}
use Rattle.query_names.proofs.cond_names.read_comparison.Goals as goal

pub returns-clause-unknown : goal.returns-clause-unknown
returns-clause-unknown c = compared (headings c.args.columns.now) c.args.left.now c.args.right.now (facing c.in_ok-left_is.left_is) (facing c.in_ok-right_is.right_is) (cases c.args.findings.now.unknown.items) (cases c.add_operand.new.self.unknown.items) _ c.in_ok-left_is.ensures c.in_ok-right_is.ensures c.in_ok-add_operand.ensures.unknown c.in_ok-add_operand-2.ensures.unknown
