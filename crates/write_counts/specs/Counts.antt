-- The number in a write's tag: how many rows an INSERT lists, or how many distinct lists of mandatory cells the plain rows
-- have that a DELETE or UPDATE matches in some admitted variant. `there` is what the table is in each variant.
use Rattle.std.specs.Prelude.{ℕ, ◌≡◌, ◌↔◌, Bool, true, not, ◌&&◌, List, [], ◌∷◌, map, filter, length, Option, if◌then◌else◌}
use Rattle.condition_sat.specs.Admitted.{IsAdmitted}
use Rattle.condition_sat.specs.Possible.{some_admitted}
use Rattle.feature_expr.specs.Satisfaction.{satisfies}
use Rattle.feature_expr.specs.declared.expr.Expr.{Expr}
use Rattle.plain_relation.specs.Relations.{Cell, Relation, cell_of}
use Rattle.query_meaning.specs.WriteTyping.{acts}
use Rattle.values.specs.declared.value.Value.{Value}
use Rattle.vra_syntax.specs.declared.write.Write.{Write}
use Rattle.vra_syntax.specs.declared.write.Write.TheVariants as write
use Rattle.vschema.specs.Variants.{bare_name}
use Rattle.vschema.specs.declared.catalog.Column.{Column}
use Rattle.vschema.specs.declared.catalog.Table.{Table}
use Rattle.vtable.specs.Answers.{IsAnswerAt, answer_at}
use Rattle.vtable.specs.declared.table.VRow.{VRow}
use Rattle.write_meaning.specs.Members.{Has, SameRows}
use Rattle.write_meaning.specs.RowWrites.{matches}
use Rattle.write_meaning.specs.StoredTables.{stored_table}

-- whether a column is there in every admitted variant that has the table
abbrev pub is_mandatory : Expr → Table → Column → Bool
is_mandatory model table column = not (some_admitted model (λ c. satisfies c table.cond && not (satisfies c column.cond)))

-- a plain row's cells in the mandatory columns
abbrev pub mandatory_cells : Expr → Table → List Cell → List (Option Value)
mandatory_cells model table row = map (λ (column : Column). cell_of row (bare_name column.name)) (filter (is_mandatory model table) table.columns)

-- in an admitted variant in which the write acts, a plain row that matches has these mandatory cells
pub record IsMatched (model : Expr) (table : Table) (w : Write) (there : List ℕ → Relation) (cells : List (Option Value)) : Type 0 where
  pub c : List ℕ
  pub admitted : IsAdmitted model c
  pub acts_there : acts c table w ≡ true
  pub row : List Cell
  pub stands : Has (there c).rows row
  pub matches_it : matches c w row ≡ true
  pub cells_are : cells ≡ mandatory_cells model table row

-- no member stands twice
abbrev pub AreDistinct : List (List (Option Value)) → Type 0
AreDistinct [] = Unit {0}
AreDistinct (cells ∷ others) = (Has others cells → ⊥) × AreDistinct others

-- so many distinct lists of mandatory cells match
pub record IsMatchCount (model : Expr) (table : Table) (w : Write) (there : List ℕ → Relation) (count : ℕ) : Type 0 where
  pub lists : List (List (Option Value))
  pub distinct : AreDistinct lists
  pub matched : (cells : List (Option Value)) → Has lists cells ↔ IsMatched model table w there cells
  pub count_is : count ≡ length lists

-- So many are in a write's tag. The rows of an INSERT count where it acts in some admitted variant.
abbrev pub IsCount : Expr → Table → Write → (List ℕ → Relation) → ℕ → Type 0
IsCount model table (write.Insert name names rows expr) there count =
    count ≡ (if some_admitted model (λ c. acts c table (write.Insert name names rows expr)) then length rows else 0)
IsCount model table (write.Delete name cond expr) there count = IsMatchCount model table (write.Delete name cond expr) there count
IsCount model table (write.Update name items cond expr) there count = IsMatchCount model table (write.Update name items cond expr) there count

-- in each admitted variant the rows are a well-formed answer, and what the table is there
abbrev pub AreRowsOf : Expr → Table → List VRow → (List ℕ → Relation) → Type 0
AreRowsOf model table rows there = (c : List ℕ) → IsAdmitted model c → IsAnswerAt c (stored_table table rows) × SameRows (answer_at c (stored_table table rows)) (there c)

-- so many are in a write's tag, whatever the table is of which these are the rows
abbrev pub IsCountOver : Expr → Table → Write → List VRow → ℕ → Type 0
IsCountOver model table w rows count = (there : List ℕ → Relation) → AreRowsOf model table rows there → IsCount model table w there count
