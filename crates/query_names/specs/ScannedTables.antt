-- The tables of some numbers, ascending and each once.
use Rattle.std.specs.Prelude.{ℕ, ◌≡◌, ◌+◌, ◌<◌, Bool, false, nat_lt, length, List, [], ◌∷◌, map, slice_index_or, if◌then◌else◌}
use Rattle.std.specs.List.{AllByRecursion, list_all}
use Rattle.query_meaning.specs.Plans.{has_number}
use Rattle.query_meaning.specs.Typing.{IsTableOf}
use Rattle.query_meaning.specs.declared.typed.TableColumns.{TableColumns}
use Rattle.vschema.specs.declared.catalog.Table.{Table}

abbrev pub all_below : ℕ → List ℕ → Bool
all_below count numbers = list_all (λ number. nat_lt number count) numbers

-- for each number below the count whether it is among the numbers
pub record AreMarks (count : ℕ) (numbers : List ℕ) (marks : List Bool) : Type 0 where
  pub full : length marks ≡ count
  pub each : (number : ℕ) → number < count → slice_index_or marks number false ≡ has_number number numbers

-- the places that are marked, the first one being that of a number
abbrev pub marked_from : ℕ → List Bool → List ℕ
marked_from place [] = []
marked_from place (mark ∷ marks) = if mark then place ∷ marked_from (place + 1) marks else marked_from (place + 1) marks

-- the tables with the marked numbers, each with its columns
pub record AreMarked (tables : List Table) (marks : List Bool) (them : List TableColumns) : Type 0 where
  pub numbers : map (λ (it : TableColumns). it.table) them ≡ marked_from 0 marks
  pub stored : AllByRecursion (IsTableOf tables) them
