use Rattle.std.proofs.Common.{◌≡◌, drop}
use Rattle.std.specs.List.{list_any}
use Rattle.query_meaning.specs.ParameterKinds.{lacks_partner}
use Rattle.query_names.specs.Findings.{places}
use Rattle.query_names.proofs.kinds.faces_unknown.Given as goal

-- one of all is one of those that are left
abbrev pub invariant-loop-one : goal.invariant-loop-one
invariant-loop-one l = list_any (lacks_partner l.number) (places (drop l.one-index l.parameters)) ≡ list_any (lacks_partner l.number) (places l.parameters)
