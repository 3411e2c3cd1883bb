use Rattle.std.proofs.Common.{◌≡◌, map, Some}
use Rattle.std.specs.List.{range_with_len}
use Rattle.query_meaning.specs.ParameterKinds.{kind_of_param}
use Rattle.query_names.specs.Findings.{places}
use Rattle.query_names.proofs.kinds.kinds_found.Given as goal

-- the kinds so far
abbrev pub invariant-loop-place : goal.invariant-loop-place
invariant-loop-place l = map (kind_of_param l.given (places l.parameters)) (range_with_len 0 l.place) ≡ map Some l.kinds.items
