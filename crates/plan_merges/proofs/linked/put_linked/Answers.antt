use Rattle.plan_merges.proofs.LinkedLaws.{linked_made, linked_steps}
use Rattle.plan_merges.proofs.linked.put_linked.Goals as goal

pub returns-clause-made : goal.returns-clause-made
returns-clause-made g c =
    linked_made c.args.cond.now c.args.columns.now _ c.args.link c.args.right.now c.args.row.now _ c.args.places.now c.in_ok-key.key c.as_slice.result.now _ _ _
    c.requires.link c.requires.places c.in_ok-key.ensures c.as_slice.ensures c.as_slice-others.ensures c.as_slice-rows.ensures c.find-found.ensures c.in_ok-put_pairs_at.ensures.made

pub returns-clause-steps : goal.returns-clause-steps
returns-clause-steps g c =
    linked_steps c.args.link c.args.right.now _ c.args.places.now c.in_ok-key.key _ _ _ c.requires.places c.as_slice-rows.ensures c.find-found.ensures c.put_pairs_at.ensures.steps

pub returns-in_err-put_pairs_at-clause-steps : goal.returns-in_err-put_pairs_at-clause-steps
returns-in_err-put_pairs_at-clause-steps g c =
    linked_steps c.args.link c.args.right.now _ c.args.places.now c.in_ok-key.key _ _ _ c.requires.places c.as_slice-rows.ensures c.find-found.ensures c.put_pairs_at.ensures.steps
