use Rattle.std.proofs.Common.{length, set, sym, ◌∙◌, ap, subst}
use Rattle.plan_tables.specs.declared.rows.TableRows.{TableRows}
use Rattle.row_versions.proofs.TakingLaws.{alike_set}
use Rattle.row_versions.specs.Waiting.{AreAlike}
use Rattle.row_versions.proofs.held.take_table.Goals as goal

-- src/held.rt
pub returns-clause-alike : goal.returns-clause-alike
returns-clause-alike c = λ h.
    let held = c.args.held.now in
    let none : TableRows = record { table = 0; rows = c.empty.result } in
    subst (λ marks. AreAlike marks c.take_at-table.new.items.items) (sym c.take_at-marks.ensures.left)
    (subst (λ tables. AreAlike (set held.marks.items c.args.place c.new.result) tables) (sym c.take_at-table.ensures.left)
    (alike_set c.args.place held.marks.items held.tables.items c.new.result none (ap length c.new.ensures ∙ ap length (sym c.empty.ensures.rows)) h))
