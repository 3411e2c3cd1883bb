-- Conditions that wait to be read, the next one last.
use Rattle.std.specs.Prelude.{ℕ, ◌+◌, List, [], ◌∷◌, ◌++◌, map}
use Rattle.std.specs.Borrow.{Bor}
use Rattle.plain_relation.specs.Relations.{Column}
use Rattle.query_meaning.specs.Cases.{Case}
use Rattle.query_meaning.specs.Names.{unknown_in_cond}
use Rattle.query_meaning.specs.Parameters.{Occurrence, occurrences}
use Rattle.vra_syntax.specs.declared.cond.Cond.{Cond, fold-Cond}
use Rattle.vra_syntax.specs.declared.cond.Cond.TheOpen.{Cond-F}

abbrev pub conds : List (Bor Cond) → List Cond
conds waiting = map (λ (one : Bor Cond). one.now) waiting

-- what they lack, in the order in which they are read
abbrev pub waiting_unknown : List Column → List Cond → List Case
waiting_unknown columns [] = []
waiting_unknown columns (cond ∷ conds) = waiting_unknown columns conds ++ unknown_in_cond columns cond

-- and their parameters
abbrev pub waiting_parameters : List Column → List Cond → List Occurrence
waiting_parameters columns [] = []
waiting_parameters columns (cond ∷ conds) = waiting_parameters columns conds ++ occurrences columns cond

abbrev pub nodes_step : Cond-F ℕ → ℕ
nodes_step (Cond-F.Cmp left sign right) = 1
nodes_step (Cond-F.Not inner) = inner + 1
nodes_step (Cond-F.And left right) = left + right + 1
nodes_step (Cond-F.Or left right) = left + right + 1
nodes_step (Cond-F.Choice expr left right) = left + right + 1
nodes_step Cond-F.True = 1
nodes_step Cond-F.False = 1

-- how many conditions a condition is made of, itself among them
abbrev pub nodes : Cond → ℕ
nodes cond = fold-Cond ℕ nodes_step cond

abbrev pub waiting_nodes : List Cond → ℕ
waiting_nodes [] = 0
waiting_nodes (cond ∷ conds) = waiting_nodes conds + nodes cond
