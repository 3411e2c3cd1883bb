use Rattle.std.proofs.Common.{◌+◌, refl, sym, ◌∙◌, arith}
use Rattle.std.proofs.lemmas.Result.{err_from_is_err_and}
use Rattle.feature_expr.specs.ExprGrammar.{one_conjunction, disjunction, one_negation, conjunction, negation, truth, falsehood, feature, brackets}
use Rattle.feature_expr.proofs.ExprLaws.{or_refused_first, or_links, or_refused_item, or_linked, or_read, and_refused_first, and_links, and_refused_item, and_linked, and_read, read_not, refused_not, read_open, refused_open, refused_unclosed, refused_begin, refused_deep_not, refused_deep_open, refused_unknown}
use Rattle.feature_expr.proofs.NegationLaws.{leads_true, leads_false, leads_feature}
use Rattle.feature_expr.proofs.KnownLaws.{known_none, known_join, known_other, known_close, known_feature, first_join}
use Rattle.feature_expr.proofs.parse.+expression.Goals as goal

pub expression-returns-in_err-left-clause-refused : goal.expression-returns-in_err-left-clause-refused
expression-returns-in_err-left-clause-refused t c =
    let p = err_from_is_err_and c.from_residual.result c.from_residual.ensures.1 in
    rw (p.1, p.2) (or_refused_first c.args.reading.now.features.now c.args.reading.now.text.now c.args.reading.now.tokens.now c.args.reading.now.max_nesting c.args.nesting c.args.at _ c.in_err-left.ensures.refused)

pub expression-links-init : goal.expression-links-init
expression-links-init t c = record {
  after = c.in_ok-left.ensures.order.0;
  within = c.in_ok-left.ensures.order.1;
  links = or_links c.args.reading.now.features.now c.args.reading.now.text.now c.args.reading.now.tokens.now c.args.reading.now.max_nesting c.args.nesting c.args.at c.in_ok-left.end c.in_ok-left.ensures.read;
  spelled = one_conjunction c.args.nesting c.args.at c.in_ok-left.end c.in_ok-left.left c.in_ok-left.ensures.spelled;
  known = c.in_ok-left.ensures.known;
}

pub expression-returns-in_err-right-clause-refused : goal.expression-returns-in_err-right-clause-refused
expression-returns-in_err-right-clause-refused t c =
    let p = err_from_is_err_and c.from_residual-in_err-right.result c.from_residual-in_err-right.ensures.1 in
    rw (p.1, p.2) (or_refused_item c.args.reading.now.features.now c.args.reading.now.text.now c.args.reading.now.tokens.now c.args.reading.now.max_nesting c.args.nesting c.args.at c.links.end c.links.invariant.links (c.links-test.ensures.yes refl) _ c.in_err-right.ensures.refused)

pub expression-links-preserved : goal.expression-links-preserved
expression-links-preserved t c = record {
  after = omega (arith, c.in_ok-right.ensures.order, c.links.invariant.after);
  within = c.in_ok-right.ensures.order.1;
  links = or_linked c.args.reading.now.features.now c.args.reading.now.text.now c.args.reading.now.tokens.now c.args.reading.now.max_nesting c.args.nesting c.args.at c.links.end c.in_ok-right.next c.links.invariant.links (c.links-test.ensures.yes refl) c.in_ok-right.ensures.read;
  spelled = rw c.in_ok-left-2.ensures (disjunction c.args.nesting c.args.at c.links.end c.in_ok-right.next c.links.left c.in_ok-right.right c.links.invariant.spelled (c.links-test.ensures.yes refl) c.in_ok-right.ensures.spelled);
  known = known_join c.args.reading.now.features.now c.args.reading.now.text.now c.args.reading.now.tokens.now c.args.at c.links.end c.in_ok-right.next c.links.invariant.known (known_join c.args.reading.now.features.now c.args.reading.now.text.now c.args.reading.now.tokens.now c.links.end (c.links.end + 1) c.in_ok-right.next (known_other c.args.reading.now.features.now c.args.reading.now.text.now c.args.reading.now.tokens.now c.links.end (λ e. cc (c.links-test.ensures.yes refl, e))) c.in_ok-right.ensures.known);
}

pub expression-returns-clause-read : goal.expression-returns-clause-read
expression-returns-clause-read t c = or_read c.args.reading.now.features.now c.args.reading.now.text.now c.args.reading.now.tokens.now c.args.reading.now.max_nesting c.args.nesting c.args.at c.links.end c.links.invariant.links (c.links-test.ensures.no refl)

pub conjunction-returns-in_err-left-clause-refused : goal.conjunction-returns-in_err-left-clause-refused
conjunction-returns-in_err-left-clause-refused t c =
    let p = err_from_is_err_and c.from_residual.result c.from_residual.ensures.1 in
    rw (p.1, p.2) (and_refused_first c.args.reading.now.features.now c.args.reading.now.text.now c.args.reading.now.tokens.now c.args.reading.now.max_nesting c.args.nesting c.args.at _ c.in_err-left.ensures.refused)

pub conjunction-links-init : goal.conjunction-links-init
conjunction-links-init t c = record {
  after = c.in_ok-left.ensures.order.0;
  within = c.in_ok-left.ensures.order.1;
  links = and_links c.args.reading.now.features.now c.args.reading.now.text.now c.args.reading.now.tokens.now c.args.reading.now.max_nesting c.args.nesting c.args.at c.in_ok-left.end c.in_ok-left.ensures.read;
  spelled = one_negation c.args.nesting c.args.at c.in_ok-left.end c.in_ok-left.left c.in_ok-left.ensures.spelled;
  known = c.in_ok-left.ensures.known;
}

pub conjunction-returns-in_err-right-clause-refused : goal.conjunction-returns-in_err-right-clause-refused
conjunction-returns-in_err-right-clause-refused t c =
    let p = err_from_is_err_and c.from_residual-in_err-right.result c.from_residual-in_err-right.ensures.1 in
    rw (p.1, p.2) (and_refused_item c.args.reading.now.features.now c.args.reading.now.text.now c.args.reading.now.tokens.now c.args.reading.now.max_nesting c.args.nesting c.args.at c.links.end c.links.invariant.links (c.links-test.ensures.yes refl) _ c.in_err-right.ensures.refused)

pub conjunction-links-preserved : goal.conjunction-links-preserved
conjunction-links-preserved t c = record {
  after = omega (arith, c.in_ok-right.ensures.order, c.links.invariant.after);
  within = c.in_ok-right.ensures.order.1;
  links = and_linked c.args.reading.now.features.now c.args.reading.now.text.now c.args.reading.now.tokens.now c.args.reading.now.max_nesting c.args.nesting c.args.at c.links.end c.in_ok-right.next c.links.invariant.links (c.links-test.ensures.yes refl) c.in_ok-right.ensures.read;
  spelled = rw c.in_ok-left-2.ensures (conjunction c.args.nesting c.args.at c.links.end c.in_ok-right.next c.links.left c.in_ok-right.right c.links.invariant.spelled (c.links-test.ensures.yes refl) c.in_ok-right.ensures.spelled);
  known = known_join c.args.reading.now.features.now c.args.reading.now.text.now c.args.reading.now.tokens.now c.args.at c.links.end c.in_ok-right.next c.links.invariant.known (known_join c.args.reading.now.features.now c.args.reading.now.text.now c.args.reading.now.tokens.now c.links.end (c.links.end + 1) c.in_ok-right.next (known_other c.args.reading.now.features.now c.args.reading.now.text.now c.args.reading.now.tokens.now c.links.end (λ e. cc (c.links-test.ensures.yes refl, e))) c.in_ok-right.ensures.known);
}

pub conjunction-returns-clause-read : goal.conjunction-returns-clause-read
conjunction-returns-clause-read t c = and_read c.args.reading.now.features.now c.args.reading.now.text.now c.args.reading.now.tokens.now c.args.reading.now.max_nesting c.args.nesting c.args.at c.links.end c.links.invariant.links (c.links-test.ensures.no refl)

pub negation-returns-in_err-nesting-in-Not-clause-refused : goal.negation-returns-in_err-nesting-in-Not-clause-refused
negation-returns-in_err-nesting-in-Not-clause-refused t c =
    let p = err_from_is_err_and c.from_residual.result c.from_residual.ensures.1 in
    rw (p.1, p.2, c.in_err-nesting-in-Not.ensures.err.0) (refused_deep_not c.args.reading.now.features.now c.args.reading.now.text.now c.args.reading.now.tokens.now c.args.reading.now.max_nesting c.args.nesting c.args.at c.in_err-nesting-in-Not.ensures.err.1 (sym c.in-Not.ensures.exact))

pub negation-returns-in_err-inner-in-Not-clause-refused : goal.negation-returns-in_err-inner-in-Not-clause-refused
negation-returns-in_err-inner-in-Not-clause-refused t c =
    let p = err_from_is_err_and c.from_residual-in_err-inner-in-Not.result c.from_residual-in_err-inner-in-Not.ensures.1 in
    rw (p.1, p.2) (refused_not c.args.reading.now.features.now c.args.reading.now.text.now c.args.reading.now.tokens.now c.args.reading.now.max_nesting c.args.nesting c.args.at c.in_ok-nesting-in-Not.ensures.ok.1 (sym c.in-Not.ensures.exact) _ (rw c.in_ok-nesting-in-Not.ensures.ok.0 at c.in_err-inner-in-Not.ensures.refused))

pub negation-returns-in_err-nesting-in-Open-clause-refused : goal.negation-returns-in_err-nesting-in-Open-clause-refused
negation-returns-in_err-nesting-in-Open-clause-refused t c =
    let p = err_from_is_err_and c.from_residual-in_err-nesting-in-Open.result c.from_residual-in_err-nesting-in-Open.ensures.1 in
    rw (p.1, p.2, c.in_err-nesting-in-Open.ensures.err.0) (refused_deep_open c.args.reading.now.features.now c.args.reading.now.text.now c.args.reading.now.tokens.now c.args.reading.now.max_nesting c.args.nesting c.args.at c.in_err-nesting-in-Open.ensures.err.1 (sym c.in-Open.ensures.exact))

pub negation-returns-in_err-inner-in-Open-clause-refused : goal.negation-returns-in_err-inner-in-Open-clause-refused
negation-returns-in_err-inner-in-Open-clause-refused t c =
    let p = err_from_is_err_and c.from_residual-in_err-inner-in-Open.result c.from_residual-in_err-inner-in-Open.ensures.1 in
    rw (p.1, p.2) (refused_open c.args.reading.now.features.now c.args.reading.now.text.now c.args.reading.now.tokens.now c.args.reading.now.max_nesting c.args.nesting c.args.at c.in_ok-nesting-in-Open.ensures.ok.1 (sym c.in-Open.ensures.exact) _ (rw c.in_ok-nesting-in-Open.ensures.ok.0 at c.in_err-inner-in-Open.ensures.refused))

pub negation-returns-in_ok-make_not-in-Not-clause-read : goal.negation-returns-in_ok-make_not-in-Not-clause-read
negation-returns-in_ok-make_not-in-Not-clause-read t c = read_not c.args.reading.now.features.now c.args.reading.now.text.now c.args.reading.now.tokens.now c.args.reading.now.max_nesting c.args.nesting c.args.at c.in_ok-inner-in-Not.end c.in_ok-nesting-in-Not.ensures.ok.1 (sym c.in-Not.ensures.exact) (rw c.in_ok-nesting-in-Not.ensures.ok.0 at c.in_ok-inner-in-Not.ensures.read)

pub negation-returns-in_ok-make_not-in-Not-clause-spelled : goal.negation-returns-in_ok-make_not-in-Not-clause-spelled
negation-returns-in_ok-make_not-in-Not-clause-spelled t c = rw c.in_ok-make_not-in-Not.ensures (negation c.args.nesting c.args.at c.in_ok-inner-in-Not.end c.in_ok-inner-in-Not.inner (sym c.in-Not.ensures.exact) (rw c.in_ok-nesting-in-Not.ensures.ok.0 at c.in_ok-inner-in-Not.ensures.spelled))

pub negation-returns-in-True-clause-read : goal.negation-returns-in-True-clause-read
negation-returns-in-True-clause-read t c outer fitting limit h = leads_true outer fitting c.args.reading.now.text.now c.args.reading.now.tokens.now limit c.args.nesting c.args.at (sym c.in-True.ensures.exact)

pub negation-returns-in-True-clause-spelled : goal.negation-returns-in-True-clause-spelled
negation-returns-in-True-clause-spelled t c = truth c.args.nesting c.args.at (sym c.in-True.ensures.exact)

pub negation-returns-in-False-clause-read : goal.negation-returns-in-False-clause-read
negation-returns-in-False-clause-read t c outer fitting limit h = leads_false outer fitting c.args.reading.now.text.now c.args.reading.now.tokens.now limit c.args.nesting c.args.at (sym c.in-False.ensures.exact)

pub negation-returns-in-False-clause-spelled : goal.negation-returns-in-False-clause-spelled
negation-returns-in-False-clause-spelled t c = falsehood c.args.nesting c.args.at (sym c.in-False.ensures.exact)

pub negation-returns-in-Some-clause-read : goal.negation-returns-in-Some-clause-read
negation-returns-in-Some-clause-read t c outer fitting limit h = leads_feature outer fitting c.args.reading.now.text.now c.args.reading.now.tokens.now limit c.args.nesting c.args.at (sym c.in-Feature.ensures.exact)

pub negation-returns-in-Some-clause-spelled : goal.negation-returns-in-Some-clause-spelled
negation-returns-in-Some-clause-spelled t c = feature c.args.nesting c.args.at c.in-Some.feature (sym c.in-Feature.ensures.exact) (sym c.in-Some.ensures)

pub negation-returns-in-None-clause-refused : goal.negation-returns-in-None-clause-refused
negation-returns-in-None-clause-refused t c = refused_unknown c.args.reading.now.features.now c.args.reading.now.text.now c.args.reading.now.tokens.now c.args.reading.now.max_nesting c.args.nesting c.args.at (sym c.in-Feature.ensures.exact) (sym c.in-None.ensures)

pub negation-returns-then-is_sign-clause-read : goal.negation-returns-then-is_sign-clause-read
negation-returns-then-is_sign-clause-read t c = read_open c.args.reading.now.features.now c.args.reading.now.text.now c.args.reading.now.tokens.now c.args.reading.now.max_nesting c.args.nesting c.args.at c.in_ok-inner-in-Open.end c.in_ok-nesting-in-Open.ensures.ok.1 (sym c.in-Open.ensures.exact) (rw c.in_ok-nesting-in-Open.ensures.ok.0 at c.in_ok-inner-in-Open.ensures.read) (c.if-is_sign.ensures.yes refl)

pub negation-returns-then-is_sign-clause-spelled : goal.negation-returns-then-is_sign-clause-spelled
negation-returns-then-is_sign-clause-spelled t c = brackets c.args.nesting c.args.at c.in_ok-inner-in-Open.end c.in_ok-inner-in-Open.inner (sym c.in-Open.ensures.exact) (rw c.in_ok-nesting-in-Open.ensures.ok.0 at c.in_ok-inner-in-Open.ensures.spelled) (c.if-is_sign.ensures.yes refl)

pub negation-returns-else-is_sign-clause-refused : goal.negation-returns-else-is_sign-clause-refused
negation-returns-else-is_sign-clause-refused t c = refused_unclosed c.args.reading.now.features.now c.args.reading.now.text.now c.args.reading.now.tokens.now c.args.reading.now.max_nesting c.args.nesting c.args.at c.in_ok-inner-in-Open.end c.in_ok-nesting-in-Open.ensures.ok.1 (sym c.in-Open.ensures.exact) (rw c.in_ok-nesting-in-Open.ensures.ok.0 at c.in_ok-inner-in-Open.ensures.read) (c.if-is_sign.ensures.no refl)

pub negation-returns-in_default-clause-refused : goal.negation-returns-in_default-clause-refused
negation-returns-in_default-clause-refused t c = refused_begin c.args.reading.now.features.now c.args.reading.now.text.now c.args.reading.now.tokens.now c.args.reading.now.max_nesting c.args.nesting c.args.at (λ e. c.in_default.not-Not (c.sign_at.ensures.exact ∙ e)) (λ e. c.in_default.not-True (c.sign_at.ensures.exact ∙ e)) (λ e. c.in_default.not-False (c.sign_at.ensures.exact ∙ e)) (λ e. c.in_default.not-Feature (c.sign_at.ensures.exact ∙ e)) (λ e. c.in_default.not-Open (c.sign_at.ensures.exact ∙ e))

pub expression-returns-in_err-left-clause-first : goal.expression-returns-in_err-left-clause-first
expression-returns-in_err-left-clause-first t c =
    let p = err_from_is_err_and c.from_residual.result c.from_residual.ensures.1 in
    rw (p.1, p.2) c.in_err-left.ensures.first

pub expression-returns-in_err-right-clause-first : goal.expression-returns-in_err-right-clause-first
expression-returns-in_err-right-clause-first t c =
    let p = err_from_is_err_and c.from_residual-in_err-right.result c.from_residual-in_err-right.ensures.1 in
    rw (p.1, p.2) (first_join c.args.reading.now.features.now c.args.reading.now.text.now c.args.reading.now.tokens.now c.args.at c.links.end _ c.links.invariant.known (first_join c.args.reading.now.features.now c.args.reading.now.text.now c.args.reading.now.tokens.now c.links.end (c.links.end + 1) _ (known_other c.args.reading.now.features.now c.args.reading.now.text.now c.args.reading.now.tokens.now c.links.end (λ e. cc (c.links-test.ensures.yes refl, e))) c.in_err-right.ensures.first))

pub conjunction-returns-in_err-left-clause-first : goal.conjunction-returns-in_err-left-clause-first
conjunction-returns-in_err-left-clause-first t c =
    let p = err_from_is_err_and c.from_residual.result c.from_residual.ensures.1 in
    rw (p.1, p.2) c.in_err-left.ensures.first

pub conjunction-returns-in_err-right-clause-first : goal.conjunction-returns-in_err-right-clause-first
conjunction-returns-in_err-right-clause-first t c =
    let p = err_from_is_err_and c.from_residual-in_err-right.result c.from_residual-in_err-right.ensures.1 in
    rw (p.1, p.2) (first_join c.args.reading.now.features.now c.args.reading.now.text.now c.args.reading.now.tokens.now c.args.at c.links.end _ c.links.invariant.known (first_join c.args.reading.now.features.now c.args.reading.now.text.now c.args.reading.now.tokens.now c.links.end (c.links.end + 1) _ (known_other c.args.reading.now.features.now c.args.reading.now.text.now c.args.reading.now.tokens.now c.links.end (λ e. cc (c.links-test.ensures.yes refl, e))) c.in_err-right.ensures.first))

pub negation-returns-in_err-nesting-in-Not-clause-first : goal.negation-returns-in_err-nesting-in-Not-clause-first
negation-returns-in_err-nesting-in-Not-clause-first t c =
    let p = err_from_is_err_and c.from_residual.result c.from_residual.ensures.1 in
    rw (p.1, p.2, c.in_err-nesting-in-Not.ensures.err.0) (known_none c.args.reading.now.features.now c.args.reading.now.text.now c.args.reading.now.tokens.now c.args.at)

pub negation-returns-in_err-inner-in-Not-clause-first : goal.negation-returns-in_err-inner-in-Not-clause-first
negation-returns-in_err-inner-in-Not-clause-first t c =
    let p = err_from_is_err_and c.from_residual-in_err-inner-in-Not.result c.from_residual-in_err-inner-in-Not.ensures.1 in
    rw (p.1, p.2) (first_join c.args.reading.now.features.now c.args.reading.now.text.now c.args.reading.now.tokens.now c.args.at (c.args.at + 1) _ (known_other c.args.reading.now.features.now c.args.reading.now.text.now c.args.reading.now.tokens.now c.args.at (λ e. cc (c.in-Not.ensures.exact, e))) c.in_err-inner-in-Not.ensures.first)

pub negation-returns-in_err-nesting-in-Open-clause-first : goal.negation-returns-in_err-nesting-in-Open-clause-first
negation-returns-in_err-nesting-in-Open-clause-first t c =
    let p = err_from_is_err_and c.from_residual-in_err-nesting-in-Open.result c.from_residual-in_err-nesting-in-Open.ensures.1 in
    rw (p.1, p.2, c.in_err-nesting-in-Open.ensures.err.0) (known_none c.args.reading.now.features.now c.args.reading.now.text.now c.args.reading.now.tokens.now c.args.at)

pub negation-returns-in_err-inner-in-Open-clause-first : goal.negation-returns-in_err-inner-in-Open-clause-first
negation-returns-in_err-inner-in-Open-clause-first t c =
    let p = err_from_is_err_and c.from_residual-in_err-inner-in-Open.result c.from_residual-in_err-inner-in-Open.ensures.1 in
    rw (p.1, p.2) (first_join c.args.reading.now.features.now c.args.reading.now.text.now c.args.reading.now.tokens.now c.args.at (c.args.at + 1) _ (known_other c.args.reading.now.features.now c.args.reading.now.text.now c.args.reading.now.tokens.now c.args.at (λ e. cc (c.in-Open.ensures.exact, e))) c.in_err-inner-in-Open.ensures.first)

pub negation-returns-in_ok-make_not-in-Not-clause-known : goal.negation-returns-in_ok-make_not-in-Not-clause-known
negation-returns-in_ok-make_not-in-Not-clause-known t c = known_join c.args.reading.now.features.now c.args.reading.now.text.now c.args.reading.now.tokens.now c.args.at (c.args.at + 1) c.in_ok-inner-in-Not.end (known_other c.args.reading.now.features.now c.args.reading.now.text.now c.args.reading.now.tokens.now c.args.at (λ e. cc (c.in-Not.ensures.exact, e))) c.in_ok-inner-in-Not.ensures.known

pub negation-returns-in-True-clause-known : goal.negation-returns-in-True-clause-known
negation-returns-in-True-clause-known t c = known_other c.args.reading.now.features.now c.args.reading.now.text.now c.args.reading.now.tokens.now c.args.at (λ e. cc (c.in-True.ensures.exact, e))

pub negation-returns-in-False-clause-known : goal.negation-returns-in-False-clause-known
negation-returns-in-False-clause-known t c = known_other c.args.reading.now.features.now c.args.reading.now.text.now c.args.reading.now.tokens.now c.args.at (λ e. cc (c.in-False.ensures.exact, e))

pub negation-returns-in-Some-clause-known : goal.negation-returns-in-Some-clause-known
negation-returns-in-Some-clause-known t c = known_feature c.args.reading.now.features.now c.args.reading.now.text.now c.args.reading.now.tokens.now c.args.at c.in-Some.feature (sym c.in-Some.ensures)

pub negation-returns-in-None-clause-first : goal.negation-returns-in-None-clause-first
negation-returns-in-None-clause-first t c = known_none c.args.reading.now.features.now c.args.reading.now.text.now c.args.reading.now.tokens.now c.args.at

pub negation-returns-then-is_sign-clause-known : goal.negation-returns-then-is_sign-clause-known
negation-returns-then-is_sign-clause-known t c = known_join c.args.reading.now.features.now c.args.reading.now.text.now c.args.reading.now.tokens.now c.args.at (c.args.at + 1) (c.in_ok-inner-in-Open.end + 1) (known_other c.args.reading.now.features.now c.args.reading.now.text.now c.args.reading.now.tokens.now c.args.at (λ e. cc (c.in-Open.ensures.exact, e))) (known_join c.args.reading.now.features.now c.args.reading.now.text.now c.args.reading.now.tokens.now (c.args.at + 1) c.in_ok-inner-in-Open.end (c.in_ok-inner-in-Open.end + 1) c.in_ok-inner-in-Open.ensures.known (known_close c.args.reading.now.features.now c.args.reading.now.text.now c.args.reading.now.tokens.now c.in_ok-inner-in-Open.end (c.if-is_sign.ensures.yes refl)))

pub negation-returns-else-is_sign-clause-first : goal.negation-returns-else-is_sign-clause-first
negation-returns-else-is_sign-clause-first t c = (c.in_ok-inner-in-Open.ensures.order.1, known_join c.args.reading.now.features.now c.args.reading.now.text.now c.args.reading.now.tokens.now c.args.at (c.args.at + 1) c.in_ok-inner-in-Open.end (known_other c.args.reading.now.features.now c.args.reading.now.text.now c.args.reading.now.tokens.now c.args.at (λ e. cc (c.in-Open.ensures.exact, e))) c.in_ok-inner-in-Open.ensures.known)

pub negation-returns-in_default-clause-first : goal.negation-returns-in_default-clause-first
negation-returns-in_default-clause-first t c = (c.requires, known_none c.args.reading.now.features.now c.args.reading.now.text.now c.args.reading.now.tokens.now c.args.at)
