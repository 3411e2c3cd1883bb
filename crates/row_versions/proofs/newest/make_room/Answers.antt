use Rattle.std.proofs.Common.{◌+◌, ◌≤◌, length, vec_capacity, sym, ◌∙◌, subst, arith}
use Rattle.row_versions.proofs.RoomLaws.{room_parted, room_whole}
use Rattle.row_versions.proofs.newest.make_room.Goals as goal

-- src/newest.rt
pub returns-then-is_empty-clause-room : goal.returns-then-is_empty-clause-room
returns-then-is_empty-clause-room c =
    room_whole c.args.ends.now (length c.args.newest.now.rows.items + c.args.more) c.room_for.new.newest c.args.kept.now (sym c.is_empty.ensures ∙ c.if-is_empty.true)
    (c.in_ok-room_for.ensures.room, subst (λ n. n + c.args.more ≤ vec_capacity c.room_for.new.newest.marks) c.requires.marked c.in_ok-room_for.ensures.marks_room)

pub returns-clause-room : goal.returns-clause-room
returns-clause-room c =
    let h = c.in_ok-room_for-2.ensures.room in
    let k = c.in_ok-room_for-2.ensures.marks_room in
    let e = c.in-Some.ensures in
    let f = c.len.ensures in
    let g = c.args.newest.now.rows.ok.0 in
    room_parted c.args.ends.now (length c.args.newest.now.rows.items + c.args.more) c.args.newest.now c.room_for-2.new.newest (sym c.is_empty.ensures ∙ c.if-is_empty.false)
    (omega (arith, h, e, f, g), omega (arith, k, e, f, g)) (c.in_ok-room_for-2.ensures.rows ∙ c.requires.no_rows) (c.in_ok-room_for-2.ensures.marks ∙ c.requires.no_marks)
