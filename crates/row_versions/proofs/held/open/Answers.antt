use Rattle.std.proofs.Common.{◌<◌, length, set, sym, ◌∙◌, ap, subst}
use Rattle.plan_tables.specs.declared.rows.TableRows.{TableRows}
use Rattle.row_versions.proofs.TakingLaws.{alike_at}
use Rattle.row_versions.specs.Waiting.{AreAlike}
use Rattle.row_versions.proofs.held.open.Goals as goal

-- src/held.rt
pub give_room-room-requires-clause-marked : goal.give_room-room-requires-clause-marked
give_room-room-requires-clause-marked c =
    let place = c.args.change.table in
    let taken = c.take_table-table in
    let left = taken.new.held in
    ap length c.taken_out-one.ensures.marks
    ∙ alike_at place left.marks.items left.tables.items taken.result.1 taken.result.0 (subst (λ n. place < n) (sym taken.ensures.many) c.requires.place)
    (subst (λ marks. AreAlike marks (set left.tables.items place taken.result.0)) (sym taken.ensures.marks)
    (subst (λ tables. AreAlike c.args.held.now.marks.items tables) (sym taken.ensures.tables) c.requires.alike))
    ∙ ap (λ (table : TableRows). length table.rows.rows) (sym c.taken_out-one.ensures.table)
