-- All rows of an INSERT have its condition: they are held together or not at all.
use Rattle.std.proofs.Common.{◌≡◌, ◌∙◌, ℕ, Bool, true, false, cond, if◌then◌else◌, List, [], ◌∷◌, map, refl, sym, ap, rules}
use Rattle.condition_sat.specs.Possible.{can_hold}
use Rattle.feature_expr.specs.Expressions.{and_of}
use Rattle.feature_expr.specs.declared.expr.Expr.{Expr}
use Rattle.vra_syntax.specs.declared.cond.Operand.{Operand}
use Rattle.vschema.specs.declared.catalog.Table.{Table}
use Rattle.vtable.specs.declared.table.VRow.{VRow}
use Rattle.write_meaning.specs.RowWrites.{holding, inserted_row}

module _ (model : Expr) (table : Table) (names : List (List ℕ)) (expr : Expr) where
  abbrev listed : List (List Operand) → List VRow
  listed rows = map (inserted_row table names expr) rows

  held_step : (values : List Operand) (rows : List VRow) (b : Bool) → b ≡ true → cond b (inserted_row table names expr values ∷ rows) rows ≡ inserted_row table names expr values ∷ rows
  held_step values rows true is = refl
  held_step values rows false is = search rules

  left_step : (values : List Operand) (rows : List VRow) (b : Bool) → b ≡ false → cond b (inserted_row table names expr values ∷ rows) rows ≡ rows
  left_step values rows true is = search rules
  left_step values rows false is = refl

  all_of : (rows : List (List Operand)) → can_hold model (and_of table.cond expr) ≡ true → holding model table (listed rows) ≡ listed rows
  all_of [] is = refl
  all_of (values ∷ rows) is = held_step values (holding model table (listed rows)) (can_hold model (and_of table.cond expr)) is ∙ ap (λ xs. inserted_row table names expr values ∷ xs) (all_of rows is)

  none_of : (rows : List (List Operand)) → can_hold model (and_of table.cond expr) ≡ false → holding model table (listed rows) ≡ []
  none_of [] is = refl
  none_of (values ∷ rows) is = left_step values (holding model table (listed rows)) (can_hold model (and_of table.cond expr)) is ∙ none_of rows is

-- the rows of an INSERT that are held, by one answer
pub held_all : (model : Expr) (table : Table) (names : List (List ℕ)) (expr : Expr) (rows : List (List Operand)) (answer : Bool) (out : List VRow) → answer ≡ can_hold model (and_of table.cond expr) → out ≡ (if answer then map (inserted_row table names expr) rows else []) → out ≡ holding model table (map (inserted_row table names expr) rows)
held_all model table names expr rows true out says are = are ∙ sym (all_of model table names expr rows (sym says))
held_all model table names expr rows false out says are = are ∙ sym (none_of model table names expr rows (sym says))
