use Rattle.query_typing.proofs.FormLaws.{same_sides}
use Rattle.query_typing.proofs.two_forms.ask_differ.Goals as goal

pub returns-then-are_same-clause-ok : goal.returns-then-are_same-clause-ok
returns-then-are_same-clause-ok c = same_sides c.args.questions.now c.args.reach.now c.args.left.now c.args.right.now (c.are_same.ensures c.if-are_same.true)
