-- Conditions that wait to be read, the next one last.
use Rattle.std.specs.Prelude.{ℕ, ◌+◌, List, [], ◌∷◌, ◌++◌, if◌then◌else◌}
use Rattle.feature_expr.specs.Satisfaction.{satisfies}
use Rattle.plain_relation.specs.Relations.{Column}
use Rattle.query_meaning.specs.Cases.{Case}
use Rattle.query_meaning.specs.PlainTypes.{asked}
use Rattle.query_names.specs.Waiting.{nodes}
use Rattle.query_typing.specs.declared.cond_cases.WaitingCond.{WaitingCond}
use Rattle.values.specs.declared.value.Kind.{Kind}

-- their cases over the columns that are there, in the order in which they are read
abbrev pub waiting_at : List ℕ → List Kind → List Column → List WaitingCond → List Case
waiting_at c kinds columns [] = []
waiting_at c kinds columns (one ∷ waiting) = waiting_at c kinds columns waiting ++ (if satisfies c one.path then asked c kinds one.cond.now columns else [])

-- how many conditions they are made of
abbrev pub waiting_count : List WaitingCond → ℕ
waiting_count [] = 0
waiting_count (one ∷ waiting) = waiting_count waiting + nodes one.cond.now
