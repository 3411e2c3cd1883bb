use Rattle.std.proofs.Common.{◌∙◌, ◌+◌, ap, ap₂, subst, sym, take}
use Rattle.write_counts.proofs.MetLaws.{met_more, unmet_more}
use Rattle.write_counts.specs.Lists.{AreOnce, is_met, marked, met_lists}
use Rattle.write_counts.proofs.count.count_met.Goals as goal
use Rattle.write_counts.proofs.count.count_met.Goals.{then-branch+in_ok-marked_cells+in_ok-add, else-branch}

pub loop-row-preserved : goal.loop-row-preserved
loop-row-preserved c =
    let model = c.args.questions.now in
    let table = c.args.table.now in
    let says = c.in_ok-is_met.ensures.answer ∙ ap (λ m. is_met m table c.in_ok-narrowed.narrowed c.args.cond.now c.row-item.result) c.loop-row.invariant.0 in (
      c.in_ok-is_met.ensures.same ∙ c.loop-row.invariant.0,
      elim c.if-branch.branch [
        | then-branch+in_ok-marked_cells+in_ok-add w ↦ subst (AreOnce (met_lists model table c.in_ok-narrowed.narrowed c.args.cond.now (take (c.loop-row.row-index + 1) c.args.rows.now))) (sym w.lists-is)
            (met_more model table c.in_ok-narrowed.narrowed c.args.cond.now c.args.rows.now c.loop-row.row-index c.row-item.result c.in_ok-is_met.field-0 c.in_ok-marks.marks.items w.in_ok-marked_cells.field-0.items c.loop-row.lists w.add.new.self
            c.loop-row-test.true c.row-item.is says w.if-branch.true c.in_ok-marks.ensures.marks (w.in_ok-marked_cells.ensures ∙ ap₂ marked w.as_slice.ensures.value w.as_slice-then-branch.ensures) c.loop-row.invariant.1 w.in_ok-add.ensures)
        | else-branch w ↦ subst (AreOnce (met_lists model table c.in_ok-narrowed.narrowed c.args.cond.now (take (c.loop-row.row-index + 1) c.args.rows.now))) (sym w.lists-is)
            (unmet_more model table c.in_ok-narrowed.narrowed c.args.cond.now c.args.rows.now c.loop-row.row-index c.row-item.result c.in_ok-is_met.field-0 c.loop-row.lists
            c.loop-row-test.true c.row-item.is says w.if-branch.false c.loop-row.invariant.1)
      ],
    )
