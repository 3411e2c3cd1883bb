use Rattle.feature_expr.specs.ExprGrammar.{Disjunction}
use Rattle.feature_expr.proofs.FaultLaws.{fault_found, fault_refused}
use Rattle.feature_expr.proofs.OccurringLaws.{names_spelled}
use Rattle.feature_expr.proofs.OneLaws.{one_text}
use Rattle.feature_expr.proofs.PrintedLaws.{printed_text}
use Rattle.feature_expr.proofs.TextLaws.{refused_text}
use Rattle.feature_expr.proofs.WholeLaws.{refused_for_memory}
use Rattle.feature_expr.proofs.parse.parse_expr.Goals as goal

pub returns-in-Ok-whole_expression-clause-ok : goal.returns-in-Ok-whole_expression-clause-ok
returns-in-Ok-whole_expression-clause-ok c = record {
  tokens = c.in-Ok.tokens;
  are_tokens = c.in-Ok.ensures;
  end = c.in-Ok-whole_expression._end;
  ends = rw (c.as_bytes.ensures.value, c.as_slice.ensures) at c.in-Ok-whole_expression.ensures.ends;
  viable = rw (c.as_bytes.ensures.value, c.as_slice.ensures) at c.in-Ok-whole_expression.ensures.viable;
  spelled = rw (c.as_bytes.ensures.value, c.as_slice.ensures) at c.in-Ok-whole_expression.ensures.spelled;
}

pub returns-in-Ok-whole_expression-clause-read : goal.returns-in-Ok-whole_expression-clause-read
returns-in-Ok-whole_expression-clause-read c = λ expr t. one_text c.args.features.now c.args.text.now c.args.max_nesting c.args.max_nesting c.in-Ok-whole_expression.expr expr (returns-in-Ok-whole_expression-clause-ok c) t

pub returns-clause-read : goal.returns-clause-read
returns-clause-read c = λ expr t. refused_for_memory c.args.features.now c.args.text.now c.args.max_nesting expr c.placed.result t (refused_text c.args.features.now c.args.text.now c.in-Ok.tokens c.args.max_nesting c.in-Err-whole_expression.fault c.placed.result c.in-Ok.ensures (rw (c.as_bytes.ensures.value, c.as_slice.ensures) at c.in-Err-whole_expression.ensures.refused) (rw (c.as_bytes.ensures.value, c.as_slice.ensures) at c.in-Err-whole_expression.ensures.first) (rw c.as_slice-in-Err-whole_expression.ensures at c.placed.ensures))

pub returns-in-Ok-whole_expression-clause-printed : goal.returns-in-Ok-whole_expression-clause-printed
returns-in-Ok-whole_expression-clause-printed c = λ expr named nests is. returns-in-Ok-whole_expression-clause-read c expr (printed_text c.args.features.now c.args.text.now c.in-Ok.tokens c.args.max_nesting expr c.count-names.ensures.names named nests is c.in-Ok.ensures)

pub returns-clause-printed : goal.returns-clause-printed
returns-clause-printed c = λ expr named nests is. returns-clause-read c expr (printed_text c.args.features.now c.args.text.now c.in-Ok.tokens c.args.max_nesting expr c.count-names.ensures.names named nests is c.in-Ok.ensures)

pub returns-in-Ok-whole_expression-clause-refused : goal.returns-in-Ok-whole_expression-clause-refused
returns-in-Ok-whole_expression-clause-refused c = λ why r other. fault_found c.args.features.now c.args.text.now c.args.max_nesting c.in-Ok-whole_expression.expr why (returns-in-Ok-whole_expression-clause-ok c) r other

pub returns-clause-refused : goal.returns-clause-refused
returns-clause-refused c = λ why r other. fault_refused c.args.features.now c.args.text.now c.args.max_nesting c.placed.result why (refused_text c.args.features.now c.args.text.now c.in-Ok.tokens c.args.max_nesting c.in-Err-whole_expression.fault c.placed.result c.in-Ok.ensures (rw (c.as_bytes.ensures.value, c.as_slice.ensures) at c.in-Err-whole_expression.ensures.refused) (rw (c.as_bytes.ensures.value, c.as_slice.ensures) at c.in-Err-whole_expression.ensures.first) (rw c.as_slice-in-Err-whole_expression.ensures at c.placed.ensures)) r other

pub returns-in-Ok-whole_expression-clause-known : goal.returns-in-Ok-whole_expression-clause-known
returns-in-Ok-whole_expression-clause-known c = names_spelled c.args.features.now c.args.text.now c.in-Ok.tokens (Disjunction 0) 0 c.in-Ok-whole_expression.expr c.in-Ok-whole_expression._end (rw (c.as_bytes.ensures.value, c.as_slice.ensures) at c.in-Ok-whole_expression.ensures.spelled)
