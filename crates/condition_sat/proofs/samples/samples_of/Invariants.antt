use Rattle.std.specs.List.{All}
use Rattle.condition_sat.specs.Samples.{IsSample}
use Rattle.condition_sat.proofs.samples.samples_of.Given as goal

abbrev pub invariant-loop-pattern : goal.invariant-loop-pattern
invariant-loop-pattern l = All (λ c. IsSample l.model c) l.samples.items
