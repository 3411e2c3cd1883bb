use Rattle.std.proofs.Common.{refl}
use Rattle.std.proofs.lemmas.Result.{err_from_is_err_and}
use Rattle.feature_expr.proofs.TextLaws.{is_fault, no_end, whole}
use Rattle.feature_expr.proofs.parse.whole_expression.Goals as goal

pub returns-in_err-expr-clause-refused : goal.returns-in_err-expr-clause-refused
returns-in_err-expr-clause-refused c =
    let p = err_from_is_err_and c.from_residual.result c.from_residual.ensures.1 in
    rw (p.1, p.2) (is_fault c.args.reading.now.features.now c.args.reading.now.text.now c.args.reading.now.tokens.now c.args.reading.now.max_nesting _ c.in_err-expr.ensures.refused)

pub returns-then-is_sign-clause-viable : goal.returns-then-is_sign-clause-viable
returns-then-is_sign-clause-viable c = whole c.args.reading.now.features.now c.args.reading.now.text.now c.args.reading.now.tokens.now c.args.reading.now.max_nesting c.in_ok-expr.end c.in_ok-expr.ensures.read (c.if-is_sign.ensures.yes refl)

pub returns-else-is_sign-clause-refused : goal.returns-else-is_sign-clause-refused
returns-else-is_sign-clause-refused c = no_end c.args.reading.now.features.now c.args.reading.now.text.now c.args.reading.now.tokens.now c.args.reading.now.max_nesting c.in_ok-expr.end c.in_ok-expr.ensures.read (c.if-is_sign.ensures.no refl)

pub returns-in_err-expr-clause-first : goal.returns-in_err-expr-clause-first
returns-in_err-expr-clause-first c =
    let p = err_from_is_err_and c.from_residual.result c.from_residual.ensures.1 in
    rw (p.1, p.2) c.in_err-expr.ensures.first
