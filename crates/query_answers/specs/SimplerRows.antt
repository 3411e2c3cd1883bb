-- Rows under conditions that may stand in others' places.
use Rattle.std.specs.Prelude.{◌≡◌, List, [], ◌∷◌, ◌++◌}
use Rattle.query_answers.specs.declared.simpler.Simplified.{Simplified}
use Rattle.simple_conditions.specs.Simpler.{Simplifies}
use Rattle.vtable.specs.declared.table.VRow.{VRow}

-- what is kept of a condition that was simplified is so
abbrev pub IsSimplified : Simplified → Type 0
IsSimplified it = Simplifies it.before it.after

-- the same cells, under a condition that may stand in the other's place
pub record IsSimpler (row simpler : VRow) : Type 0 where
  pub cells : simpler.cells ≡ row.cells
  pub cond : Simplifies row.cond simpler.cond

-- the same rows in the same order, each under such a condition
abbrev pub AreSimpler : List VRow → List VRow → Type 0
AreSimpler [] [] = Unit {0}
AreSimpler (row ∷ rows) (simpler ∷ more) = IsSimpler row simpler × AreSimpler rows more
AreSimpler _ _ = ⊥

-- one row more, under such a condition
pub record PutsSimpler (old new : List VRow) (row : VRow) : Type 0 where
  pub simpler : VRow
  pub is : IsSimpler row simpler
  pub put : new ≡ old ++ simpler ∷ []
