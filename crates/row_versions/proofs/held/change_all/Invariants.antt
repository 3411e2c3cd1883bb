use Rattle.std.proofs.Common.{◌≡◌, ◌+◌, length}
use Rattle.std.specs.VecDeque.{deque_capacity}
use Rattle.row_versions.proofs.ChangingLaws.{IsChanging}
use Rattle.row_versions.specs.Changing.{changed}
use Rattle.row_versions.specs.Prepared.{stored_back}
use Rattle.row_versions.specs.Stored.{Stored}
use Rattle.row_versions.specs.Waiting.{changes_of}
use Rattle.row_versions.proofs.held.change_all.Given as goal

abbrev pub decreases-loop-one : goal.decreases-loop-one
decreases-loop-one l = length l.waiting.items

-- the changes that are left give what all give
abbrev pub invariant-loop-one : goal.invariant-loop-one
invariant-loop-one l =
    let held = l.fn.held in
    let all : Stored = changed (changes_of l.fn.waiting.items) (stored_back l.fn.waiting.items held.ended.items held.marks.items held.tables.items held.next l.fn.applied) in
    IsChanging (l.fn.applied + 1) l.waiting.items l.held.ended.items l.held.marks.items l.held.tables.items l.held.next (deque_capacity held.ended) all.versions all.next all.columns
    × (deque_capacity l.held.ended ≡ deque_capacity held.ended)
