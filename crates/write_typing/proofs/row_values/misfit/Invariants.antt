use Rattle.std.proofs.Common.{◌≡◌, drop, [], ◌∷◌, if◌then◌else◌}
use Rattle.std.specs.List.{flat_map}
use Rattle.query_meaning.specs.Cases.{case}
use Rattle.query_meaning.specs.WriteTyping.{misfits}
use Rattle.query_meaning.specs.declared.ill.IllCase.TheVariants as ill
use Rattle.write_typing.specs.Values.{misfit, seat}
use Rattle.write_typing.proofs.row_values.misfit.Given as goal

abbrev pub invariant-loop-kind : goal.invariant-loop-kind
invariant-loop-kind l = misfit l.kinds (record { name = l.place.name.now; kinds = drop l.kind-index l.place.kinds.items }) l.value ≡ misfit l.kinds (seat l.place) l.value
