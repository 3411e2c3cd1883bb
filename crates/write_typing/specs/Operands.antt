-- The operands of a condition's comparisons, in the order of the text.
use Rattle.std.specs.Prelude.{ℕ, List, [], ◌∷◌, ◌++◌, map, Option, Some, None}
use Rattle.std.specs.Borrow.{Bor}
use Rattle.vra_syntax.specs.declared.cond.Cond.{Cond, fold-Cond}
use Rattle.vra_syntax.specs.declared.cond.Cond.TheOpen.{Cond-F}
use Rattle.vra_syntax.specs.declared.cond.Operand.{Operand}

abbrev pub operands_step : Cond-F (List Operand) → List Operand
operands_step (Cond-F.Cmp left sign right) = left ∷ right ∷ []
operands_step (Cond-F.Not inner) = inner
operands_step (Cond-F.And left right) = left ++ right
operands_step (Cond-F.Or left right) = left ++ right
operands_step (Cond-F.Choice expr left right) = left ++ right
operands_step Cond-F.True = []
operands_step Cond-F.False = []

-- on both sides of each choice
abbrev pub operands_of : Cond → List Operand
operands_of cond = fold-Cond (List Operand) operands_step cond

abbrev pub operands_in : Option Cond → List Operand
operands_in None = []
operands_in (Some cond) = operands_of cond

abbrev pub lent : List (Bor Operand) → List Operand
lent them = map (λ (one : Bor Operand). one.now) them

-- those of conditions that wait to be read, the next one last
abbrev pub waiting_operands : List Cond → List Operand
waiting_operands [] = []
waiting_operands (cond ∷ conds) = waiting_operands conds ++ operands_of cond
