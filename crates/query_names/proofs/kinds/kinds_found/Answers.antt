use Rattle.std.proofs.Common.{◌∙◌, ap, List, Option, Some, None, get_or, slice_get}
use Rattle.query_meaning.specs.ParameterKinds.{given_or, kind_of_param}
use Rattle.query_names.specs.Findings.{places}
use Rattle.query_names.proofs.KindLaws.{kind_found, kinds_next}
use Rattle.values.specs.declared.value.Kind.{Kind}
use Rattle.query_names.proofs.kinds.kinds_found.Goals as goal

pub loop-place-preserved : goal.loop-place-preserved
loop-place-preserved c =
    kinds_next (kind_of_param c.args.given.now (places c.args.parameters.now)) c.loop-place.place c.loop-place.kinds.items c.put_kind.new.kinds.items c.in-Some.kind c.loop-place.invariant
    (kind_found c.args.given.now (places c.args.parameters.now) c.args.count c.loop-place.place c.in_ok-settled.settled.items (Some c.in-Some.kind) c.in_ok-settled.ensures c.loop-place-test.true (c.in-Some.ensures ∙ ap (λ (xs : List (Option Kind)). given_or (slice_get c.args.given.now c.loop-place.place) (get_or xs c.loop-place.place None)) c.as_slice.ensures.value))
    c.in_ok-put_kind-in-Some.ensures
