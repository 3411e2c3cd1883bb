use Rattle.conditional_columns.proofs.SettleLaws.{settled_at, settled_cost, settled_headings, settled_mention}
use Rattle.std.proofs.Common.{◌≤◌, List, sym, ◌∙◌, ap, subst}
use Rattle.query_meaning.specs.Typing.{columns_at, headings}
use Rattle.query_meaning.specs.declared.typed.TypedColumn.{TypedColumn}
use Rattle.conditional_columns.specs.ColumnLists.{columns_cost, columns_mention}
use Rattle.conditional_columns.proofs.settling.settle.Goals as goal

-- src/settling.rt
pub returns-clause-headings : goal.returns-clause-headings
returns-clause-headings c = ap headings c.in_ok-whole.ensures ∙ settled_headings c.args.columns

pub returns-clause-there : goal.returns-clause-there
returns-clause-there c = λ d. ap (columns_at d) c.in_ok-whole.ensures ∙ settled_at d c.args.columns

pub returns-clause-weight : goal.returns-clause-weight
returns-clause-weight c = subst (λ (v : List TypedColumn). columns_cost v ≤ columns_cost c.args.columns) (sym c.in_ok-whole.ensures) (settled_cost c.args.columns)

pub returns-clause-known : goal.returns-clause-known
returns-clause-known c = λ i h. settled_mention i c.args.columns (sym (ap (columns_mention i) c.in_ok-whole.ensures) ∙ h)
