use Rattle.query_typing.proofs.FormLaws.{union_is}
use Rattle.query_typing.proofs.two_forms.union_columns.Goals as goal

pub returns-clause-ok : goal.returns-clause-ok
returns-clause-ok c = union_is c.args.questions.now c.args.reach.now c.args.kinds.now c.args.left c.args.right c.in_ok-all.all c.in_ok-columns.columns c.in_ok-all.ensures c.in_ok-columns.ensures.headings c.in_ok-columns.ensures.there c.in_ok-ask_sides.ensures.ok
