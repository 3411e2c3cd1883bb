use Rattle.std.proofs.Common.{◌≡◌, ℕ, ◌++◌, List, drop, length}
use Rattle.commit_changes.specs.Ends.{AreEnds}
use Rattle.commit_changes.proofs.ended.ended_places.Given as goal
use Rattle.vtable.specs.declared.table.VRow.{VRow}

-- what is found from this place on goes on what was found in front of it
abbrev pub invariant-loop-place : goal.invariant-loop-place
invariant-loop-place l =
    (l.questions ≡ l.fn.questions)
    × ((more : List ℕ) (later : List VRow) → AreEnds l.fn.questions l.table l.write l.place (length l.rows) l.ended (drop l.place l.rows) more later
    → AreEnds l.fn.questions l.table l.write 0 (length l.rows) l.fn.ended l.rows (l.ends.items ++ more) (l.begins.items ++ later))
