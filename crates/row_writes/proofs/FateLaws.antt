-- The fate that is made of a row is the one that the write gives it.
use Rattle.std.proofs.Common.{◌≡◌, ◌∙◌, ℕ, ◌+◌, ◌≤◌, Bool, true, false, not, ◌&&◌, ◌||◌, ◌⊎◌, inl, inr, List, [], ◌∷◌, map, refl, sym, ap, subst, arith, rules}
use Rattle.condition_sat.proofs.PossibleLaws.{none_admitted, some_admitted_same}
use Rattle.condition_sat.specs.Possible.{some_admitted}
use Rattle.feature_expr.specs.Expressions.{and_of, mentions, not_of, weight_of}
use Rattle.feature_expr.specs.Satisfaction.{satisfies}
use Rattle.feature_expr.specs.declared.expr.Expr.{Expr}
use Rattle.query_meaning.specs.Bounds.{table_column_weight}
use Rattle.query_meaning.specs.WriteTyping.{acts, assignment_of}
use Rattle.relational_algebra.specs.Conditions.{condition_cost, holds}
use Rattle.row_conditions.proofs.BoolLaws.{and_false, or_assoc, or_cases, or_end, or_start}
use Rattle.row_conditions.proofs.FoldingLaws.{and_holds, and_mentions, and_weighs, not_holds, not_mentions, not_weighs}
use Rattle.relational_algebra.specs.Mentions.{cond_mentions}
use Rattle.row_conditions.specs.RowConditions.{mentioned_in, row_at}
use Rattle.row_writes.proofs.CostLaws.{stored_cost}
use Rattle.row_writes.proofs.NameLaws.{distinct_cells}
use Rattle.row_writes.specs.Made.{IsDeleted, IsTouchOn, IsUpdated, can_touch, changed_of, fate_by, rest_of}
use Rattle.vra_syntax.specs.declared.cond.Cond.{Cond}
use Rattle.vra_syntax.specs.declared.cond.Operand.{Operand}
use Rattle.vra_syntax.specs.declared.write.SetItem.{SetItem}
use Rattle.vra_syntax.specs.declared.write.Write.TheVariants as write
use Rattle.vschema.specs.Formed.{has_distinct_columns}
use Rattle.vschema.specs.declared.catalog.Table.{Table}
use Rattle.vtable.specs.declared.table.VColumn.{VColumn}
use Rattle.vtable.specs.declared.table.VRow.{VRow}
use Rattle.write_meaning.specs.RowWrites.{IsFate, holding, touches}
use Rattle.write_meaning.specs.StoredTables.{stored_columns}
use Rattle.write_meaning.specs.declared.fate.Fate.{Fate}
use Rattle.write_meaning.specs.declared.fate.Fate.TheVariants.{Stays}

-- an INSERT touches no row
pub insert_fate : (model : Expr) (table : Table) (name : List ℕ) (names : List (List ℕ)) (rows : List (List Operand)) (expr : Expr) (row : VRow) → IsFate model table (write.Insert name names rows expr) row Stays
insert_fate model table name names rows expr row =
    none_admitted model (λ c. satisfies c row.cond && touches c table (write.Insert name names rows expr) row)
    (λ c admitted. ap (λ b. satisfies c row.cond && b) (and_false (acts c table (write.Insert name names rows expr))) ∙ and_false (satisfies c row.cond))

-- Of a write with this expression and condition.

there_drops : (a b h : Bool) → b ≡ true → (a && h) ≡ ((a && b) && h)
there_drops true b h is = sym (ap (λ x. x && h) is)
there_drops false b h is = refl

moves : (r a t h : Bool) → (r && ((a && t) && h)) ≡ (t && (r && (a && h)))
moves true true true h = refl
moves true true false h = refl
moves true false true h = refl
moves true false false h = refl
moves false a true h = refl
moves false a false h = refl

module _ (model : Expr) (table : Table) (expr : Expr) (cond : Cond) (row : VRow) (touch : Expr) (distinct : has_distinct_columns table ≡ true) (is : IsTouchOn expr cond (stored_columns table) row touch) where
  -- whether its condition is true of the row in the variant
  abbrev matched : List ℕ → Bool
  matched c = holds c cond (row_at c (stored_columns table) row)

  exact : (c : List ℕ) → satisfies c touch ≡ (satisfies c expr && matched c)
  exact c = is.exact c (distinct_cells c table row distinct)

  light : weight_of touch ≤ weight_of expr + condition_cost cond (table_column_weight table) + 1
  light = let w = is.weight in let s = stored_cost table cond in omega (arith, w, s)

  -- what is left of the row
  rest_exact : (c : List ℕ) → satisfies c table.cond ≡ true → satisfies c (and_of row.cond (not_of touch)) ≡ (satisfies c row.cond && not ((satisfies c expr && satisfies c table.cond) && matched c))
  rest_exact c there =
      and_holds c row.cond (not_of touch)
      ∙ ap (λ b. satisfies c row.cond && b) (not_holds c touch ∙ ap not (exact c ∙ there_drops (satisfies c expr) (satisfies c table.cond) (matched c) there))

  rest_weighs : weight_of (and_of row.cond (not_of touch)) ≤ weight_of row.cond + (weight_of expr + condition_cost cond (table_column_weight table) + 3)
  rest_weighs = let a = and_weighs row.cond (not_of touch) in let n = not_weighs touch in let l = light in omega (arith, a, n, l)

  changed_exact : (c : List ℕ) → satisfies c table.cond ≡ true → satisfies c (and_of row.cond touch) ≡ (satisfies c row.cond && ((satisfies c expr && satisfies c table.cond) && matched c))
  changed_exact c there =
      and_holds c row.cond touch
      ∙ ap (λ b. satisfies c row.cond && b) (exact c ∙ there_drops (satisfies c expr) (satisfies c table.cond) (matched c) there)

  changed_weighs : weight_of (and_of row.cond touch) ≤ weight_of row.cond + (weight_of expr + condition_cost cond (table_column_weight table) + 3)
  changed_weighs = let a = and_weighs row.cond touch in let l = light in omega (arith, a, l)

  -- the features that a write of this expression and condition brings
  abbrev brought : ℕ → Bool
  brought feature = (mentions feature expr || cond_mentions feature cond) || mentioned_in feature (stored_columns table)

  touch_brings : (feature : ℕ) → mentions feature touch ≡ true → brought feature ≡ true
  touch_brings feature h = or_assoc (mentions feature expr) (cond_mentions feature cond) (mentioned_in feature (stored_columns table)) ∙ is.features feature h

  brings_by : (feature : ℕ) → (mentions feature row.cond ≡ true) ⊎ (mentions feature touch ≡ true) → (mentions feature row.cond || brought feature) ≡ true
  brings_by feature (inl here) = or_start (mentions feature row.cond) (brought feature) here
  brings_by feature (inr there) = or_end (mentions feature row.cond) (brought feature) (touch_brings feature there)

  not_brings : (feature : ℕ) → (mentions feature row.cond ≡ true) ⊎ (mentions feature (not_of touch) ≡ true) → (mentions feature row.cond || brought feature) ≡ true
  not_brings feature (inl here) = brings_by feature (inl here)
  not_brings feature (inr there) = brings_by feature (inr (not_mentions feature touch there))

  rest_features : (feature : ℕ) → mentions feature (and_of row.cond (not_of touch)) ≡ true → (mentions feature row.cond || brought feature) ≡ true
  rest_features feature h = not_brings feature (or_cases (mentions feature row.cond) (mentions feature (not_of touch)) (and_mentions feature row.cond (not_of touch) h))

  changed_features : (feature : ℕ) → mentions feature (and_of row.cond touch) ≡ true → (mentions feature row.cond || brought feature) ≡ true
  changed_features feature h = brings_by feature (or_cases (mentions feature row.cond) (mentions feature touch) (and_mentions feature row.cond touch h))

  -- whether it touches the row
  touched_is : some_admitted model (λ c. satisfies c row.cond && ((satisfies c expr && satisfies c table.cond) && matched c)) ≡ can_touch model table row touch
  touched_is = some_admitted_same model (λ c. satisfies c row.cond && ((satisfies c expr && satisfies c table.cond) && matched c)) (λ c. satisfies c table.cond && (satisfies c row.cond && satisfies c touch))
      (λ c admitted. moves (satisfies c row.cond) (satisfies c expr) (satisfies c table.cond) (matched c) ∙ ap (λ b. satisfies c table.cond && (satisfies c row.cond && b)) (sym (exact c)))

  delete_by : (name : List ℕ) (touched : Bool) → can_touch model table row touch ≡ touched → IsFate model table (write.Delete name cond expr) row (fate_by touched (holding model table (rest_of row touch ∷ [])))
  delete_by name false says = touched_is ∙ says
  delete_by name true says = (
    touched_is ∙ says,
    record {
      rest = rest_of row touch;
      rest_is = record { cells = refl; exact = λ c admitted there. rest_exact c there; weight = rest_weighs; features = rest_features };
      changed = [];
      changed_are = refl;
      begun_are = refl;
    },
  )

  update_by : (name : List ℕ) (items : List SetItem) (touched : Bool) → can_touch model table row touch ≡ touched → IsFate model table (write.Update name items cond expr) row (fate_by touched (holding model table (rest_of row touch ∷ changed_of table.columns (map assignment_of items) row touch ∷ [])))
  update_by name items false says = touched_is ∙ says
  update_by name items true says = (
    touched_is ∙ says,
    record {
      rest = rest_of row touch;
      rest_is = record { cells = refl; exact = λ c admitted there. rest_exact c there; weight = rest_weighs; features = rest_features };
      changed = changed_of table.columns (map assignment_of items) row touch ∷ [];
      changed_are = (changed_of table.columns (map assignment_of items) row touch, record { cells = refl; exact = λ c admitted there. changed_exact c there; weight = changed_weighs; features = changed_features }, refl);
      begun_are = refl;
    },
  )

pub delete_fate : (model : Expr) (table : Table) (columns : List VColumn) (name : List ℕ) (cond : Cond) (expr : Expr) (row : VRow) (fate : Fate) → columns ≡ stored_columns table → has_distinct_columns table ≡ true → IsDeleted model table columns expr cond row fate → IsFate model table (write.Delete name cond expr) row fate
delete_fate model table columns name cond expr row fate are distinct made =
    subst (IsFate model table (write.Delete name cond expr) row) (sym made.fate_is)
    (delete_by model table expr cond row made.touch distinct (subst (λ columns. IsTouchOn expr cond columns row made.touch) are made.touch_is) name (can_touch model table row made.touch) refl)

pub update_fate : (model : Expr) (table : Table) (columns : List VColumn) (name : List ℕ) (items : List SetItem) (cond : Cond) (expr : Expr) (row : VRow) (fate : Fate) → columns ≡ stored_columns table → has_distinct_columns table ≡ true → IsUpdated model table columns expr cond (map assignment_of items) row fate → IsFate model table (write.Update name items cond expr) row fate
update_fate model table columns name items cond expr row fate are distinct made =
    subst (IsFate model table (write.Update name items cond expr) row) (sym made.fate_is)
    (update_by model table expr cond row made.touch distinct (subst (λ columns. IsTouchOn expr cond columns row made.touch) are made.touch_is) name items (can_touch model table row made.touch) refl)
