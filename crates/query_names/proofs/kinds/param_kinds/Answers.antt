use Rattle.std.proofs.Common.{◌∙◌, ap, sym, List, length, max}
use Rattle.query_meaning.specs.ParameterKinds.{kind_of_param}
use Rattle.query_names.specs.Findings.{cases, places}
use Rattle.query_names.specs.NameCases.{fault_case}
use Rattle.query_names.specs.declared.found.ParamPlace.{ParamPlace}
use Rattle.query_names.proofs.CoverLaws.{covered_by}
use Rattle.query_names.proofs.KindLaws.{refuses_lacking}
use Rattle.query_names.proofs.kinds.param_kinds.Goals as goal

pub lacking_fault-requires-clause-covered : goal.lacking_fault-requires-clause-covered
lacking_fault-requires-clause-covered c = covered_by c.args.tables.now.tables.now c.args.statement.now (cases c.in-Ok.findings.unknown.items) (places c.in-Ok.findings.parameters.items) c.in-Ok.ensures.unknown c.in-Ok.ensures.parameters

pub returns-in-Err-Lacks-clause-refused : goal.returns-in-Err-Lacks-clause-refused
returns-in-Err-Lacks-clause-refused c =
    let lacks = rw c.in-Err-Lacks.field-0-is at c.in-Err-Lacks.ensures.lacking in
    refuses_lacking c.args.tables.now.tables.now c.args.given.now c.args.statement.now (cases c.in-Ok.findings.unknown.items) (places c.in-Ok.findings.parameters.items) c.greater-count.result c.in-Err-Lacks.place (fault_case c.lacking_fault.result) c.refusal_of.result c.in-Ok.ensures.unknown c.in-Ok.ensures.parameters
    (c.greater-count.ensures ∙ ap (λ n. max n (length c.args.given.now)) (c.from.ensures ∙ c.param_count.ensures))
    c.in-Ok.ensures.narrow lacks.0
    (ap (λ (ps : List ParamPlace). kind_of_param c.args.given.now (places ps) c.in-Err-Lacks.place) (sym c.as_slice.ensures.value) ∙ lacks.1)
    c.lacking_fault.ensures c.refusal_of.ensures
