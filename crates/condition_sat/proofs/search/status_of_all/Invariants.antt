use Rattle.std.proofs.Common.{take}
use Rattle.condition_sat.specs.Search.{IsStatusOfAll}
use Rattle.condition_sat.proofs.search.status_of_all.Given as goal

-- what becomes of the expressions so far
abbrev pub invariant-loop-one : goal.invariant-loop-one
invariant-loop-one l = IsStatusOfAll (take l.one-index l.asked) l.assignment l.all
