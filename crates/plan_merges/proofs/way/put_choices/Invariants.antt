use Rattle.std.proofs.Common.{◌≡◌, ◌++◌, take}
use Rattle.plan_merges.proofs.way.put_choices.Given as goal

abbrev pub invariant-loop-choice : goal.invariant-loop-choice
invariant-loop-choice l = l.out.items ≡ l.fn.out.items ++ take l.choice-index l.ranks
