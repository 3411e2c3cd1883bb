-- Changes that are prepared leave what is stored, and say what it will be.
use Rattle.std.proofs.Common.{◌≡◌, ℕ, ◌+◌, List, [], ◌∷◌, refl, sym, ◌∙◌, ap₂, subst, arith}
use Rattle.plan_tables.specs.declared.rows.TableRows.{TableRows}
use Rattle.row_versions.proofs.BlockedLaws.{marked_alike}
use Rattle.row_versions.specs.Changing.{IsChanged, changed}
use Rattle.row_versions.specs.Holdings.{AreTables, stored}
use Rattle.row_versions.specs.Stored.{Stored}
use Rattle.row_versions.specs.Waiting.{AreAlike}
use Rattle.row_versions.specs.declared.ended.EndedRow.{EndedRow}
use Rattle.row_versions.specs.declared.mark.Mark.{Mark}
use Rattle.table_changes.specs.Changes.{RiseFrom}
use Rattle.table_changes.specs.declared.change.TableChange.{TableChange}
use Rattle.version_changes.proofs.NewestLaws.{changes_newest}
use Rattle.version_changes.proofs.SeenLaws.{changes_seen}

pub tables_alike : (number : ℕ) (marks : List (List Mark)) (tables : List TableRows) → AreTables number marks tables → AreAlike marks tables
tables_alike number [] [] h = tt
tables_alike number [] (table ∷ tables) h = absurd h
tables_alike number (own ∷ marks) [] h = absurd h
tables_alike number (own ∷ marks) (table ∷ tables) h = (marked_alike 0 own table.rows.rows h.1, tables_alike (number + 1) marks tables h.2)

pub stored_same : (ended ended_new : List EndedRow) (marks marks_new : List (List Mark)) (tables tables_new : List TableRows) (next next_new applied : ℕ) → ended_new ≡ ended → marks_new ≡ marks → tables_new ≡ tables → next_new ≡ next
    → stored ended_new marks_new tables_new next_new applied ≡ stored ended marks tables next applied
stored_same ended ended_new marks marks_new tables tables_new next next_new applied ended_is marks_is tables_is next_is =
    ap₂ (λ es n. stored es marks_new tables_new n applied) ended_is next_is ∙ ap₂ (λ ms ts. stored ended ms ts next applied) marks_is tables_is

changed_now : (changes : List TableChange) (old : Stored) → RiseFrom 0 changes → IsChanged changes old (changed changes old)
changed_now changes old rise = record {
  is = refl;
  seen = λ s h. changes_seen s (old.applied + 1) old.next changes old.versions (omega (arith, h));
  newest = λ number. changes_newest 0 (old.applied + 1) old.next number changes old.versions rise;
}

pub changed_is : (changes own : List TableChange) (old was new : Stored) → RiseFrom 0 changes → own ≡ changes → was ≡ old → new ≡ changed own was → IsChanged changes old new
changed_is changes own old was new rise own_is was_is is =
    subst (IsChanged changes old) (sym (is ∙ ap₂ changed own_is was_is)) (changed_now changes old rise)
