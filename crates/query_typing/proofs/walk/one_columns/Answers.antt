use Rattle.std.proofs.Common.{◌∙◌, ap, subst, sym}
use Rattle.query_typing.specs.Bounded.{one_made}
use Rattle.query_typing.specs.Parts.{PartIs, one_typed, plain_part}
use Rattle.query_typing.specs.declared.form.OneForm.{OneForm}
use Rattle.query_typing.proofs.walk.one_columns.Goals as goal

pub returns-in_ok-columns-in-Select-clause-ok : goal.returns-in_ok-columns-in-Select-clause-ok
returns-in_ok-columns-in-Select-clause-ok c = subst (λ (f : OneForm). PartIs c.args.questions.now c.args.reach.now (λ d. one_typed d c.args.kinds.now f (plain_part c.args.source d)) c.in_ok-columns-in-Select.columns) (sym c.in-Select.is) c.in_ok-columns-in-Select.ensures.ok

pub returns-in_ok-columns-in-Alias-clause-ok : goal.returns-in_ok-columns-in-Alias-clause-ok
returns-in_ok-columns-in-Alias-clause-ok c = subst (λ (f : OneForm). PartIs c.args.questions.now c.args.reach.now (λ d. one_typed d c.args.kinds.now f (plain_part c.args.source d)) c.in_ok-columns-in-Alias.columns) (sym c.in-Alias.is) c.in_ok-columns-in-Alias.ensures.ok

pub returns-in_ok-columns-in-Select-clause-made : goal.returns-in_ok-columns-in-Select-clause-made
returns-in_ok-columns-in-Select-clause-made c = c.in_ok-columns-in-Select.ensures.made ∙ ap (λ (f : OneForm). one_made f c.args.source) (sym c.in-Select.is)

pub returns-in_ok-columns-in-Alias-clause-made : goal.returns-in_ok-columns-in-Alias-clause-made
returns-in_ok-columns-in-Alias-clause-made c = c.in_ok-columns-in-Alias.ensures.made ∙ ap (λ (f : OneForm). one_made f c.args.source) (sym c.in-Alias.is)
