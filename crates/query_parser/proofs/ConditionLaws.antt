-- Comparisons, put together from their parts.
use Rattle.std.proofs.Common.{Bool, true, false, ◌≡◌, ◌≢◌, ℕ, ◌+◌, List, Some, None, sym}
use Rattle.word_tokens.specs.declared.token.Token.{Token}
use Rattle.values.specs.declared.value.Value.TheVariants as value
use Rattle.vra_syntax.specs.declared.cond.Cond.{Cond}
use Rattle.vra_syntax.specs.declared.cond.Cond as cond
use Rattle.vra_syntax.specs.declared.cond.Op.{Op}
use Rattle.vra_syntax.specs.declared.cond.Operand.{Operand}
use Rattle.vra_syntax.specs.declared.cond.Operand.TheVariants as operand
use Rattle.query_parser.specs.Conditions.{Negation, SpellsCond, comparison, truth, falsehood}
use Rattle.query_parser.specs.Faults.{OperandFault, CondFault, in_left_operand, no_comparison, in_right_operand}
use Rattle.query_parser.specs.Lexemes.{stands, op_at}
use Rattle.query_parser.specs.Parts.{IsOperand}
use Rattle.query_parser.specs.Truths.{truth_in}
use Rattle.query_parser.specs.declared.fault.ParseFault.{ParseFault}
use Rattle.query_parser.specs.declared.fault.ParseFault.TheVariants as fault
use Rattle.query_parser.specs.declared.lexeme.Lexeme.TheVariants as lexeme

pub no_truth : (left : Operand) (b : Bool) → truth_in left ≡ None → left ≢ operand.Literal (value.Bool b)
no_truth left true none is = cc (rw is at none)
no_truth left false none is = cc (rw is at none)

module _ (with_params : Bool) (names : List (List ℕ)) (text : List ℕ) (tokens : List Token) (n at : ℕ) where
  pub compared : (left right : Operand) (op : Op) (middle end : ℕ) → IsOperand with_params text tokens at left middle → Some op ≡ op_at text tokens middle → IsOperand with_params text tokens (middle + 1) right end → SpellsCond with_params names text tokens (Negation n) at (cond.Cmp left op right) end
  compared left right op middle end is some other = comparison n at left op right middle end is (sym some) other

  pub truth_alone : (left : Operand) (c : Cond) (end : ℕ) → IsOperand with_params text tokens at left end → None ≡ op_at text tokens end → Some c ≡ truth_in left → SpellsCond with_params names text tokens (Negation n) at c end
  truth_alone (operand.Literal (value.Bool true)) c end is none alone = let e : c ≡ cond.True = cc in rw e (truth n at end is (sym none))
  truth_alone (operand.Literal (value.Bool false)) c end is none alone = let e : c ≡ cond.False = cc in rw e (falsehood n at end is (sym none))
  truth_alone (operand.Literal (value.Int number)) c end is none alone = absurd (cc)
  truth_alone (operand.Literal (value.Text bytes)) c end is none alone = absurd (cc)
  truth_alone (operand.Column column) c end is none alone = absurd (cc)
  truth_alone (operand.Param number) c end is none alone = absurd (cc)

  pub left_refused : (why : ParseFault) → stands text tokens at lexeme.Not ≡ false → stands text tokens at lexeme.Open ≡ false → stands text tokens at lexeme.Choice ≡ false → OperandFault with_params text tokens at why → CondFault with_params names text tokens (Negation n) at why
  left_refused why negated brackets choice refused = in_left_operand n at why negated brackets choice refused

  pub not_compared : (left : Operand) (middle : ℕ) → IsOperand with_params text tokens at left middle → None ≡ op_at text tokens middle → None ≡ truth_in left → CondFault with_params names text tokens (Negation n) at (fault.Syntax middle)
  not_compared left middle is none alone = no_comparison n at left middle is (no_truth left true (sym alone)) (no_truth left false (sym alone)) (sym none)

  pub right_refused : (left : Operand) (op : Op) (middle : ℕ) (why : ParseFault) → IsOperand with_params text tokens at left middle → Some op ≡ op_at text tokens middle → OperandFault with_params text tokens (middle + 1) why → CondFault with_params names text tokens (Negation n) at why
  right_refused left op middle why is some refused = in_right_operand n at left op middle why is (sym some) refused
