use Rattle.std.proofs.Common.{rules, ◌≡◌, ◌∙◌, ◌<◌, length, Some, slice_get, get_or, sym, ap, subst}
use Rattle.std.proofs.lemmas.Option.{slice_get-get_or}
use Rattle.counted_writes.proofs.CountLaws.{counted, inserted_counted, lent_rows, lent_within, map_ok, written_rows}
use Rattle.counted_writes.specs.Counted.{IsCountOf}
use Rattle.counted_writes.proofs.count.count_write.Goals as goal

-- src/count.rt
pub returns-then-is_insert : goal.returns-then-is_insert
returns-then-is_insert g c =
    map_ok c.count_over.result
    (λ count it. inserted_counted c.args.store.now c.args.snap.now c.args.writes.now c.args.write.now c.in-Some.number count c.known.ensures.tidy c.requires.live (search rules) (search rules) it)
    c.count_over.ensures

pub bounds-as_slice-number : goal.bounds-as_slice-number
bounds-as_slice-number g c =
    subst (λ n. c.in-Some.number < n) (ap length (sym c.as_slice-in-Some-newest.ensures))
    (lent_within c.args.store.now c.args.snap.now c.args.write.now c.in-Some.number c.in-Some-newest.rows.now.tables (search rules) c.in-Some-newest.ensures)

pub returns-in-Some-newest : goal.returns-in-Some-newest
returns-in-Some-newest g c =
    let all = c.in-Some-newest.rows.now.tables in
    let lent = c.index-as_slice-number.result in
    let there : slice_get all c.in-Some.number ≡ Some lent =
    slice_get-get_or all c.in-Some.number lent (lent_within c.args.store.now c.args.snap.now c.args.write.now c.in-Some.number all (search rules) c.in-Some-newest.ensures)
    ∙ ap Some (sym (c.index-as_slice-number.is ∙ ap (λ tables. get_or tables c.in-Some.number lent) c.as_slice-in-Some-newest.ensures))
    in
    map_ok c.count_over-in-Some-newest.result
    (λ count it. counted c.args.store.now c.args.snap.now c.args.writes.now c.args.write.now c.in-Some.number lent.rows.rows count (search rules)
    (lent_rows c.args.store.now c.args.snap.now c.args.writes.now c.args.write.now c.in-Some.number all lent c.known.ensures.tidy c.requires.live (search rules) (search rules) c.in-Some-newest.ensures there)
    (subst (λ rows. IsCountOf c.args.store.now.catalog c.in-Some.number c.args.write.now rows count) c.as_slice-in-Some-newest-2.ensures it))
    c.count_over-in-Some-newest.ensures

pub returns : goal.returns
returns g c =
    map_ok c.count_over-2.result
    (λ count it. counted c.args.store.now c.args.snap.now c.args.writes.now c.args.write.now c.in-Some.number c.in_ok-table.table.rows count (search rules)
    (written_rows c.args.store.now c.args.snap.now c.args.writes.now c.in-Some.number c.len.result c.in_ok-table.table c.len.ensures c.in_ok-table.ensures)
    (subst (λ rows. IsCountOf c.args.store.now.catalog c.in-Some.number c.args.write.now rows count) c.as_slice-2.ensures it))
    c.count_over-2.ensures
