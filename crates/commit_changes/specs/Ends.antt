-- What a write ends of a table's newest rows, place by place, and what begins.
use Rattle.std.specs.Prelude.{ℕ, ◌==◌, ◌≡◌, Bool, true, false, ◌⊎◌, List, [], ◌∷◌, ◌++◌}
use Rattle.feature_expr.specs.declared.expr.Expr.{Expr}
use Rattle.row_writes.specs.Made.{AreWritten}
use Rattle.table_changes.specs.Changes.{ArePlaces, rows_without}
use Rattle.vra_syntax.specs.declared.write.Write.{Write}
use Rattle.vra_syntax.specs.declared.write.Write.TheVariants as write
use Rattle.vschema.specs.declared.catalog.Table.{Table}
use Rattle.vtable.specs.declared.table.VRow.{VRow}
use Rattle.write_meaning.specs.RowWrites.{IsFate, begun_by}
use Rattle.write_meaning.specs.declared.fate.Fate.{Fate}
use Rattle.write_meaning.specs.declared.fate.Fate.TheVariants.{Stays, Ends}

abbrev pub is_insert : Write → Bool
is_insert (write.Insert table names rows expr) = true
is_insert (write.Delete table cond expr) = false
is_insert (write.Update table items cond expr) = false

-- of these rows those stay under the write, and what begins was added
pub record AddsWritten (model : Expr) (table : Table) (w : Write) (rows stay old new : List VRow) : Type 0 where
  pub begins : List VRow
  pub written : AreWritten model table w rows stay begins
  pub added : new ≡ old ++ begins

-- Of the rows from a place on those at the first places had ended. Those at the second ones have ended after the write.
pub record AreEnds (model : Expr) (table : Table) (w : Write) (place count : ℕ) (ended : List ℕ) (rows : List VRow) (ends : List ℕ) (begins : List VRow) : Type 0 where
  pub written : AreWritten model table w (rows_without place ended rows) (rows_without place ends rows) begins
  pub places : ArePlaces place count ends

-- whether the first of the places is this one
abbrev pub first_is : ℕ → List ℕ → Bool
first_is place [] = false
first_is place (first ∷ places) = first == place

-- the place of a row, if it ends
abbrev pub places_by : ℕ → Fate → List ℕ
places_by place Stays = []
places_by place (Ends begun) = place ∷ []

-- its fate was added
pub record IsJudged (model : Expr) (table : Table) (w : Write) (place : ℕ) (row : VRow) (ends ends' : List ℕ) (begins begins' : List VRow) : Type 0 where
  pub fate : Fate
  pub is_fate : IsFate model table w row fate
  pub ends_are : ends' ≡ ends ++ places_by place fate
  pub begins_are : begins' ≡ begins ++ begun_by fate

-- it had ended, and has still
pub record HadEnded (place : ℕ) (ended left ends ends' : List ℕ) (begins begins' : List VRow) : Type 0 where
  pub first : ended ≡ place ∷ left
  pub ends_are : ends' ≡ ends ++ place ∷ []
  pub begins_are : begins' ≡ begins

-- it hadn't
pub record HadNot (model : Expr) (table : Table) (w : Write) (place : ℕ) (row : VRow) (ended left ends ends' : List ℕ) (begins begins' : List VRow) : Type 0 where
  pub first : first_is place ended ≡ false
  pub left_are : left ≡ ended
  pub judged : IsJudged model table w place row ends ends' begins begins'

abbrev pub IsLookedAt : Expr → Table → Write → ℕ → VRow → List ℕ → List ℕ → List ℕ → List ℕ → List VRow → List VRow → Type 0
IsLookedAt model table w place row ended left ends ends' begins begins' =
    HadEnded place ended left ends ends' begins begins' ⊎ HadNot model table w place row ended left ends ends' begins begins'
