use Rattle.std.proofs.Common.{◌+◌, length, sym, ◌∙◌, ap, arith}
use Rattle.row_versions.proofs.PartLaws.{ended_stay, fewer, marks_stay, rows_stay, still_marked}
use Rattle.row_versions.proofs.RoomLaws.{room_left}
use Rattle.row_versions.proofs.opened.staying.Goals as goal

-- src/opened.rt
pub returns-then-is_empty-clause-rows : goal.returns-then-is_empty-clause-rows
returns-then-is_empty-clause-rows c = rows_stay c.args.ends.now c.args.newest.rows.items (sym c.is_empty.ensures ∙ c.if-is_empty.true)

pub returns-then-is_empty-clause-marks : goal.returns-then-is_empty-clause-marks
returns-then-is_empty-clause-marks c = marks_stay c.args.ends.now c.args.newest.marks.items (sym c.is_empty.ensures ∙ c.if-is_empty.true)

pub returns-then-is_empty-clause-ended : goal.returns-then-is_empty-clause-ended
returns-then-is_empty-clause-ended c =
    ended_stay c.args.commit c.args.table c.args.ends.now c.args.newest.marks.items c.args.newest.rows.items c.args.ended.now.items (sym c.is_empty.ensures ∙ c.if-is_empty.true)

pub returns-clause-marked : goal.returns-clause-marked
returns-clause-marked c =
    ap length c.part.ensures.marks ∙ still_marked 0 c.args.ends.now c.args.newest.marks.items c.args.newest.rows.items c.requires.marked ∙ sym (ap length c.part.ensures.rows)

pub returns-clause-room : goal.returns-clause-room
returns-clause-room c = λ more h.
    let left = room_left c.args.ends.now (length c.args.newest.rows.items + more) c.args.newest c.args.kept (sym c.is_empty.ensures ∙ c.if-is_empty.false) h in
    let rows = left.0.0 in
    let marks = left.0.1 in
    let few = fewer 0 c.args.ends.now c.args.newest.rows.items in
    let is = ap length c.part.ensures.rows in
    let room = c.part.ensures.room in
    let marks_room = c.part.ensures.marks_room in
    (omega (arith, rows, few, is, room), omega (arith, marks, few, is, marks_room))
