use Rattle.std.proofs.Common.{Some, None, rules}
use Rattle.feature_expr.specs.declared.expr.Expr as e
use Rattle.condition_sat.proofs.Sides.{and_status, or_status, status_same}
use Rattle.condition_sat.proofs.search.+status_of.Goals as goal

pub returns-in-Some : goal.returns-in-Some
returns-in-Some h c =
    c.loop-at.invariant.0 _ (and_status _ _ _ _ _ c.loop-at.value c.args.assignment.now _ (Some c.in-Some.status) c.in-And.is c.get-in-And.ensures c.get.ensures c.status_of-right.ensures c.in-Some.ensures)

pub returns-in-Some-of_sides : goal.returns-in-Some-of_sides
returns-in-Some-of_sides h c =
    c.loop-at.invariant.0 _ (or_status _ _ _ _ _ c.loop-at.value c.args.assignment.now _ (Some c.in-Some-of_sides.status) c.in-Or.is c.get-in-Or-2.ensures c.get-in-Or.ensures c.status_of-right-in-Or.ensures c.in-Some-of_sides.ensures)

pub loop-at-preserved-in-None : goal.loop-at-preserved-in-None
loop-at-preserved-in-None h c = (
  λ f known. c.loop-at.invariant.0 f (and_status _ _ _ _ _ c.loop-at.value c.args.assignment.now _ None c.in-And.is c.get-in-And.ensures c.get.ensures c.status_of-right.ensures c.in-None.ensures f (status_same _ _ c.loop-at.value c.args.assignment.now f c.get-at-in-None.ensures known)),
  search (rules, e.the_lemmas),
)

pub loop-at-preserved : goal.loop-at-preserved
loop-at-preserved h c = (
  λ f known. c.loop-at.invariant.0 f (or_status _ _ _ _ _ c.loop-at.value c.args.assignment.now _ None c.in-Or.is c.get-in-Or-2.ensures c.get-in-Or.ensures c.status_of-right-in-Or.ensures c.in-None-of_sides.ensures f (status_same _ _ c.loop-at.value c.args.assignment.now f c.get-at-in-None-of_sides.ensures known)),
  search (rules, e.the_lemmas),
)
