use Rattle.std.proofs.Common.{◌≡◌, drop}
use Rattle.query_meaning.specs.Parameters.{without_kind}
use Rattle.query_names.specs.Findings.{places}
use Rattle.query_names.proofs.name_cases.without_kind.Given as goal

-- those without a kind are among what is left
abbrev pub invariant-loop-one : goal.invariant-loop-one
invariant-loop-one l = without_kind l.kinds (places (drop l.one-index l.parameters)) ≡ without_kind l.kinds (places l.parameters)
