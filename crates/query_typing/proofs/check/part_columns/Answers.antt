use Rattle.feature_expr.specs.declared.expr.Expr as e
use Rattle.query_meaning.specs.PlainTypes.{typed_part}
use Rattle.query_typing.proofs.AnswerLaws.{answer_exact, answer_is_settled}
use Rattle.query_typing.proofs.AnswerBounds.{answer_features, answer_ordered, answer_weight}
use Rattle.query_typing.proofs.SimplerLaws.{simpler_bounded, simpler_part}
use Rattle.query_typing.proofs.check.part_columns.Goals as goal

pub returns-clause-exact : goal.returns-clause-exact
returns-clause-exact c =
    let it = c.in_ok-columns-2.ensures.exact in
    λ d admitted.
    answer_exact c.args.questions.now (λ b. typed_part b c.args.kinds.now c.args.tables.now.tables.now c.args.query.now) it.simpler c.in_ok-columns-2.columns _ c.in_ok-columns.ensures.same it.settled
    (simpler_part c.args.questions.now e.True (λ b. typed_part b c.args.kinds.now c.args.tables.now.tables.now c.args.query.now) c.in_ok-columns.columns it.simpler it.are c.in_ok-columns.ensures.ok) d admitted

pub returns-clause-settled : goal.returns-clause-settled
returns-clause-settled c =
    let it = c.in_ok-columns-2.ensures.exact in
    answer_is_settled c.args.questions.now _ it.simpler c.in_ok-columns-2.columns c.in_ok-columns.ensures.same it.settled

pub returns-clause-ordered : goal.returns-clause-ordered
returns-clause-ordered c =
    let it = c.in_ok-columns-2.ensures.exact in
    let tables = c.args.tables.now.tables.now in
    answer_ordered _ tables c.args.query.now it.simpler c.in_ok-columns-2.columns it.settled (simpler_bounded tables c.args.query.now c.in_ok-columns.columns it.simpler it.are c.in_ok-columns.ensures.bounded)

pub returns-clause-weight : goal.returns-clause-weight
returns-clause-weight c =
    let it = c.in_ok-columns-2.ensures.exact in
    let tables = c.args.tables.now.tables.now in
    answer_weight _ tables c.args.query.now it.simpler c.in_ok-columns-2.columns it.settled (simpler_bounded tables c.args.query.now c.in_ok-columns.columns it.simpler it.are c.in_ok-columns.ensures.bounded)

pub returns-clause-features : goal.returns-clause-features
returns-clause-features c =
    let it = c.in_ok-columns-2.ensures.exact in
    let tables = c.args.tables.now.tables.now in
    answer_features _ tables c.args.query.now it.simpler c.in_ok-columns-2.columns it.settled (simpler_bounded tables c.args.query.now c.in_ok-columns.columns it.simpler it.are c.in_ok-columns.ensures.bounded)
