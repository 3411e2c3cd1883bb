use Rattle.std.proofs.Common.{◌≡◌, ◌+◌, [], refl, ◌∙◌, rules}
use Rattle.std.specs.VecDeque.{deque_capacity}
use Rattle.row_versions.proofs.ChangingLaws.{changed_kept, changing_first, changing_held, changing_step}
use Rattle.row_versions.specs.Changing.{changed}
use Rattle.row_versions.specs.Prepared.{stored_back}
use Rattle.row_versions.specs.Stored.{Stored}
use Rattle.row_versions.specs.Waiting.{changes_of}
use Rattle.row_versions.proofs.held.change_all.Goals as goal

-- src/held.rt
pub loop-one-init : goal.loop-one-init
loop-one-init c =
    let held = c.args.held.now in
    (changing_first c.args.waiting.items held.ended.items held.marks.items held.tables.items held.next c.args.applied (deque_capacity held.ended) c.requires, refl)

pub loop-one-preserved : goal.loop-one-preserved
loop-one-preserved c =
    let first = c.args.held.now in
    let all : Stored = changed (changes_of c.args.waiting.items) (stored_back c.args.waiting.items first.ended.items first.marks.items first.tables.items first.next c.args.applied) in
    let held = c.loop-one.held in
    let new = c.change_one.new.held in
    let is = c.change_one.ensures in (
      changing_step (c.args.applied + 1) c.in-Some.one c.loop-one.waiting.items c.pop_front.new.self.items held.ended.items new.ended.items held.marks.items new.marks.items held.tables.items new.tables.items held.next new.next
          (deque_capacity first.ended) all.versions all.next all.columns c.loop-one.invariant.0 c.in-Some.ensures.items is.ended is.marks is.tables is.next,
      is.ended_room ∙ c.loop-one.invariant.1,
    )

pub returns-clause-holding : goal.returns-clause-holding
returns-clause-holding c =
    let first = c.args.held.now in
    let old : Stored = stored_back c.args.waiting.items first.ended.items first.marks.items first.tables.items first.next c.args.applied in
    let all : Stored = changed (changes_of c.args.waiting.items) old in
    let held = c.loop-one.held in
    let none : c.loop-one.waiting.items ≡ [] = search rules in
    changing_held (c.args.applied + 1) c.loop-one.waiting.items held.ended.items held.marks.items held.tables.items held.next (deque_capacity first.ended) all.versions all.next all.columns none c.loop-one.invariant.0
    (changed_kept (changes_of c.args.waiting.items) old c.requires.rising c.requires.holding.kept)
