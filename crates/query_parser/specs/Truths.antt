-- Operands that are conditions alone.
use Rattle.std.specs.Prelude.{true, false, Option, Some, None}
use Rattle.values.specs.declared.value.Value.TheVariants as value
use Rattle.vra_syntax.specs.declared.cond.Cond.{Cond}
use Rattle.vra_syntax.specs.declared.cond.Cond as cond
use Rattle.vra_syntax.specs.declared.cond.Operand.{Operand}
use Rattle.vra_syntax.specs.declared.cond.Operand.TheVariants as operand

-- the condition that a truth value is where it stands alone
abbrev pub truth_in : Operand → Option Cond
truth_in (operand.Literal (value.Bool true)) = Some cond.True
truth_in (operand.Literal (value.Bool false)) = Some cond.False
truth_in _ = None
