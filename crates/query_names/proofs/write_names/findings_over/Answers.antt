use Rattle.std.proofs.Common.{◌∙◌, ap, map}
use Rattle.query_names.proofs.WriteLaws.{inserted}
use Rattle.query_names.specs.Findings.{facing, places}
use Rattle.query_names.specs.Headings.{headings}
use Rattle.query_names.proofs.write_names.findings_over.Goals as goal

pub returns-in_ok-read_rows-in-Insert-clause-parameters : goal.returns-in_ok-read_rows-in-Insert-clause-parameters
returns-in_ok-read_rows-in-Insert-clause-parameters c =
    inserted (headings c.args.columns.now) c.args.write.now c.in-Insert._table c.in-Insert.names c.as_slice.result.now c.in-Insert.rows c.as_slice-in-Insert-2.result.now c.in-Insert._expr (map facing c.in_ok-facings-in-Insert.facings.items) (map facing c.as_slice-in-Insert.result.now) (places c.read_names.new.findings.parameters.items) (places c.read_rows.new.findings.parameters.items) c.in-Insert.is c.as_slice.ensures c.as_slice-in-Insert-2.ensures (ap (map facing) c.as_slice-in-Insert.ensures.value) c.in_ok-facings-in-Insert.ensures.facings (ap places (ap (λ v. v.items) c.in_ok-facings-in-Insert.ensures.parameters ∙ c.new-findings.ensures.parameters)) c.in_ok-read_rows-in-Insert.ensures.parameters
