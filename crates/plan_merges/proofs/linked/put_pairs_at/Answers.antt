use Rattle.std.proofs.Common.{arith, rules, ◌∷◌, ◌≡◌, slice_get}
use Rattle.std.specs.Option.{option_copied}
use Rattle.plan_merges.proofs.LinkedLaws.{count_more, pairs_more}
use Rattle.plan_merges.specs.Merges.{pair_meeting}
use Rattle.plan_merges.proofs.linked.put_pairs_at.Goals as goal

pub loop-place-preserved : goal.loop-place-preserved
loop-place-preserved g c =
    let split : c.loop-place.places.now ≡ c.in-Some.place.now ∷ c.in-Some.more.now = search rules in
    let found : option_copied c.row_at-other.result ≡ slice_get c.args.rows.now c.in-Some.place.now = c.row_at-other.ensures in
    let count = count_more (pair_meeting c.args.cond.now c.args.columns.now c.args.others.now c.args.row.now) c.args.rows.now c.in-Some.place.now c.in-Some.more.now c.loop-place.places.now (option_copied c.row_at-other.result) split found in (
      pairs_more (pair_meeting c.args.cond.now c.args.columns.now c.args.others.now c.args.row.now) c.args.rows.now c.in-Some.place.now c.in-Some.more.now c.loop-place.places.now (option_copied c.row_at-other.result) split found
          _ _ _ c.in_ok-put_pair_of.ensures.made c.loop-place.invariant.0,
      omega (arith, c.loop-place.invariant.1, c.in_ok-put_pair_of.ensures.steps, count),
    )
