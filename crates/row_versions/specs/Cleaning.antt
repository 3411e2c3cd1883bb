-- Which of the rows that have ended are kept.
use Rattle.std.specs.Prelude.{ℕ, Bool, false, List, [], ◌∷◌, filter, Option, nat_le}
use Rattle.row_versions.specs.Holdings.{ended_row}
use Rattle.row_versions.specs.declared.ended.EndedRow.{EndedRow}
use Rattle.version_lists.specs.Versions.{may_stay}

-- those that a snapshot may still see, where this is the oldest live one
abbrev pub still_ended : Option ℕ → List EndedRow → List EndedRow
still_ended oldest ended = filter (λ (e : EndedRow). may_stay oldest (ended_row e)) ended

-- whether the first one has ended by then
abbrev pub is_first_gone : ℕ → List EndedRow → Bool
is_first_gone oldest [] = false
is_first_gone oldest (e ∷ ended) = nat_le e.ends oldest
