use Rattle.std.proofs.Common.{◌∙◌, ap, sym, List}
use Rattle.std.specs.List.{list_any}
use Rattle.query_meaning.specs.ParameterKinds.{lacks_partner}
use Rattle.query_names.specs.Findings.{case_for, cases, places}
use Rattle.query_names.specs.NameCases.{shown}
use Rattle.query_names.specs.declared.found.ParamPlace.{ParamPlace}
use Rattle.query_names.specs.declared.found.UnknownName.{UnknownName}
use Rattle.query_names.proofs.KindLaws.{its_name, never_nothing}
use Rattle.query_names.proofs.kinds.lacking_fault.Goals as goal

pub unreachable-requires : goal.unreachable-requires
unreachable-requires c = never_nothing (cases c.args.findings.now.unknown.items) (places c.args.findings.now.parameters.items) c.args.number c.requires.covered
    (ap (λ (ps : List ParamPlace). list_any (lacks_partner c.args.number) (places ps)) (sym c.as_slice.ensures.value) ∙ sym c.if-faces_unknown.ensures)
    (ap (λ (us : List UnknownName). shown (cases us)) (sym c.as_slice-then-faces_unknown.ensures.value) ∙ sym c.in-None.ensures)

pub returns-in-Some : goal.returns-in-Some
returns-in-Some c = its_name (cases c.args.findings.now.unknown.items) (places c.args.findings.now.parameters.items) c.args.number (case_for c.in-Some.name)
    (ap (λ (ps : List ParamPlace). list_any (lacks_partner c.args.number) (places ps)) (sym c.as_slice.ensures.value) ∙ sym c.if-faces_unknown.ensures)
    (ap (λ (us : List UnknownName). shown (cases us)) (sym c.as_slice-then-faces_unknown.ensures.value) ∙ sym c.in-Some.ensures)
