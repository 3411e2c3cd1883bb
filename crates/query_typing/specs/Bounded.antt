-- What the columns of each form are made of, and what the columns of a part weigh and mention.
use Rattle.std.specs.Prelude.{ℕ, ◌≡◌, ◌+◌, ◌≤◌, ◌||◌, max, true, List, [], map}
use Rattle.conditional_columns.specs.ColumnLists.{behind_alias, columns_cost, columns_mention, settled}
use Rattle.conditional_columns.specs.FormLists.{chosen_list, joined_list, kept_list, united_list}
use Rattle.feature_expr.specs.Expressions.{mentions, weight_of}
use Rattle.feature_expr.specs.declared.expr.Expr.{Expr}
use Rattle.feature_expr.specs.declared.expr.Expr as e
use Rattle.query_meaning.specs.Bounds.{SizedPart, empty_sizes, size_step}
use Rattle.query_meaning.specs.PossibleColumns.{possible_columns}
use Rattle.query_meaning.specs.Typing.{columns_weight, headings, tables_mention}
use Rattle.query_meaning.specs.declared.typed.TypedColumn.{TypedColumn}
use Rattle.query_typing.specs.Steps.{rewrapped}
use Rattle.query_typing.specs.declared.form.OneForm.{OneForm}
use Rattle.query_typing.specs.declared.form.OneForm.TheVariants as one
use Rattle.query_typing.specs.declared.form.Step.{Step}
use Rattle.query_typing.specs.declared.form.TwoForm.{TwoForm}
use Rattle.query_typing.specs.declared.form.TwoForm.TheVariants as two
use Rattle.relational_algebra.specs.Columns.{once}
use Rattle.relational_algebra.specs.Mentions.{query_mentions}
use Rattle.vra_syntax.specs.declared.items.Items.{Items}
use Rattle.vra_syntax.specs.declared.items.Items.TheVariants.{All, Listed}
use Rattle.vra_syntax.specs.declared.query.Query.{Query, fold-Query}
use Rattle.vschema.specs.declared.catalog.Table.{Table}

abbrev pub items_made : Items → List TypedColumn → List TypedColumn
items_made All source = source
items_made (Listed items) source = settled (kept_list source items)

abbrev pub alias_made : List ℕ → List TypedColumn → List TypedColumn
alias_made alias source = settled (map (behind_alias alias) source)

abbrev pub one_made : OneForm → List TypedColumn → List TypedColumn
one_made (one.Select items cond) source = items_made items.now source
one_made (one.Alias name) source = alias_made name.now source

-- a condition made of those of the columns, as is the one under which some of them is there
pub record IsMadeOf (columns : List TypedColumn) (any : Expr) : Type 0 where
  pub weight : weight_of any + 1 ≤ max 2 (columns_cost columns)
  pub none : columns ≡ [] → any ≡ e.False
  pub known : (feature : ℕ) → mentions feature any ≡ true → columns_mention feature columns ≡ true

-- the columns of a join with repeats
pub record AreJoined (left right columns : List TypedColumn) : Type 0 where
  pub any_left : Expr
  pub any_right : Expr
  pub of_left : IsMadeOf left any_left
  pub of_right : IsMadeOf right any_right
  pub is : columns ≡ joined_list any_left any_right left right

-- those of a join, each once
pub record JoinMade (left right columns : List TypedColumn) : Type 0 where
  pub all : List TypedColumn
  pub joined : AreJoined left right all
  pub is : columns ≡ settled all

abbrev pub TwoMade : TwoForm → List TypedColumn → List TypedColumn → List TypedColumn → Type 0
TwoMade (two.Join cond) left right columns = JoinMade left right columns
TwoMade two.Union left right columns = columns ≡ settled (united_list left right)
TwoMade two.Except left right columns = columns ≡ left
TwoMade (two.Choice expr) left right columns = columns ≡ settled (chosen_list expr.now left right)

abbrev pub sized_part : List Table → Query → SizedPart
sized_part tables query = fold-Query SizedPart (size_step tables (empty_sizes tables)) query

-- the columns have no features but those of the part and of the tables
pub record HasFeatures (tables : List Table) (part : Query) (columns : List TypedColumn) : Type 0 where
  pub each : (feature : ℕ) → columns_mention feature columns ≡ true → (query_mentions feature part || tables_mention feature tables) ≡ true

-- The columns are the possible ones of the part, each once. They weigh no more than its bound, and have no features but
-- its own and those of the tables.
pub record IsBounded (tables : List Table) (part : Query) (columns : List TypedColumn) : Type 0 where
  pub possible : headings columns ≡ possible_columns tables part
  pub sized : headings columns ≡ (sized_part tables part).possible
  pub each : once (headings columns) ≡ headings columns
  pub weight : columns_weight columns ≤ (sized_part tables part).size.column_weight
  pub features : HasFeatures tables part columns

-- the walk: the columns are those of a part inside the steps that are left
pub record StandBounded (tables : List Table) (whole : Query) (steps : List Step) (columns : List TypedColumn) : Type 0 where
  pub inner : Query
  pub is_whole : rewrapped steps inner ≡ whole
  pub bounded : IsBounded tables inner columns
