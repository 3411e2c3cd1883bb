use Rattle.std.proofs.Common.{◌∙◌}
use Rattle.query_typing.proofs.BoundLaws.{joined_exact}
use Rattle.query_typing.proofs.two_forms.both_columns.Goals as goal

pub returns-clause-joined : goal.returns-clause-joined
returns-clause-joined c = record {
  any_left = c.in_ok-left_there.left_there;
  any_right = c.in_ok-right_there.right_there;
  of_left = record { weight = c.in_ok-left_there.ensures.weight; none = c.in_ok-left_there.ensures.none; known = c.in_ok-left_there.ensures.known };
  of_right = record { weight = c.in_ok-right_there.ensures.weight; none = c.in_ok-right_there.ensures.none; known = c.in_ok-right_there.ensures.known };
  is = c.from_vec.ensures ∙ joined_exact c.in_ok-left_there.left_there c.in_ok-right_there.right_there c.args.left.now c.args.right.now _ _ _ c.new-all.ensures.items c.in_ok-add_where.ensures.exact c.in_ok-add_where-2.ensures.exact;
}
