use Rattle.std.proofs.Common.{◌++◌, length, vec_capacity, ◌∙◌}
use Rattle.std.specs.VecDeque.{deque_capacity}
use Rattle.row_versions.proofs.PartLaws.{parted_next}
use Rattle.row_versions.specs.Marks.{marks_without, rows_ended}
use Rattle.table_changes.specs.Changes.{rows_without}
use Rattle.row_versions.proofs.part.part.Goals as goal

-- src/part.rt
pub loop-row-preserved : goal.loop-row-preserved
loop-row-preserved c =
    let it = c.loop-row in
    let all = c.args in (
      parted_next all.commit all.table it.place (length all.newest.rows.items) it.left.now c.ends_behind-left.result.now it.rows.items c.in-Some.row c.pop_front.new.self.items it.marks.items c.in-Some-pop_front.mark
          c.pop_front-in-Some.new.self.items it.kept.rows.items c.put_part.new.kept.rows.items it.kept.marks.items c.put_part.new.kept.marks.items it.ended.items c.put_part.new.ended.items
          (rows_without 0 all.ends.now all.newest.rows.items) (marks_without 0 all.ends.now all.newest.marks.items)
          (all.ended.now.items ++ rows_ended all.commit all.table 0 all.ends.now all.newest.marks.items all.newest.rows.items)
          (vec_capacity all.kept.now.rows) (vec_capacity all.kept.now.marks) (deque_capacity all.ended.now) c.is_end-here.result
          it.invariant.0 c.in-Some.ensures.items c.in-Some-pop_front.ensures.items c.is_end-here.ensures c.ends_behind-left.ensures
          c.put_part.ensures.rows c.put_part.ensures.marks c.put_part.ensures.ended,
      c.put_part.ensures.room ∙ it.invariant.1,
      c.put_part.ensures.marks_room ∙ it.invariant.2,
      c.put_part.ensures.ended_room ∙ it.invariant.3,
    )
