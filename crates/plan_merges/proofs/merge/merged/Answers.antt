use Rattle.plan_merges.proofs.WayLaws.{merged_is}
use Rattle.plan_merges.proofs.merge.merged.Goals as goal

pub returns : goal.returns
returns c =
    merged_is c.args.table.now c.in_ok-columns.columns c.in_ok-ranked.ranked.items c.in_ok-names.names.items c.in_ok-ways.ways.items c.in_ok-rows.rows
    (cc (c.in_ok-columns.ensures, c.as_slice.ensures))
    (cc (c.in_ok-ranked.ensures, c.as_slice-2.ensures))
    (cc (c.in_ok-names.ensures, c.as_slice-3.ensures.value))
    (cc (c.in_ok-ways.ensures, c.as_slice-4.ensures.value))
    (cc (c.in_ok-rows.ensures, c.as_slice-5.ensures, c.as_slice-6.ensures.value, c.as_slice-7.ensures, c.as_slice-8.ensures.value))
