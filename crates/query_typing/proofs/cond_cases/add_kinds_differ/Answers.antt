use Rattle.query_typing.proofs.KindLaws.{differ_added}
use Rattle.query_typing.proofs.cond_cases.add_kinds_differ.Goals as goal

pub returns : goal.returns
returns c = λ d. differ_added d c.args.kinds.now c.args.columns.now c.args.left.now c.args.right.now c.args.path.now _ _ _ _ _ _ _ _ c.in_ok-left_kinds.ensures c.in_ok-right_kinds.ensures c.in_ok-other.ensures c.in_ok-path.ensures (c.in_ok-cond.ensures.meaning d) (c.operand_name.ensures d) (c.in_ok-add_fault.ensures d)
