use Rattle.std.proofs.Common.{◌++◌, ◌∙◌, ap, sym, map, Option}
use Rattle.std.proofs.lemmas.Option.{slice_get-map}
use Rattle.query_meaning.specs.Parameters.{Partner}
use Rattle.query_names.proofs.WriteLaws.{row_read, value_read}
use Rattle.query_names.specs.Findings.{facing, places}
use Rattle.query_names.specs.Writes.{met}
use Rattle.query_names.proofs.write_names.read_row.Goals as goal

pub loop-place-preserved : goal.loop-place-preserved
loop-place-preserved c = record {
  unknown = c.in_ok-read_value.ensures.unknown ∙ c.loop-place.invariant.unknown;
  parameters = value_read (map facing c.args.facings.now) c.args.row.now c.loop-place.place c.index-row-place.result _ (places c.loop-place.findings.parameters.items) _ c.loop-place-test.true c.index-row-place.is c.loop-place.invariant.parameters (c.in_ok-read_value.ensures.parameters ∙ ap (λ (o : Option Partner). places c.loop-place.findings.parameters.items ++ met o c.index-row-place.result) (sym (slice_get-map facing c.args.facings.now c.loop-place.place)));
}

pub returns-clause-parameters : goal.returns-clause-parameters
returns-clause-parameters c = row_read (map facing c.args.facings.now) c.args.row.now c.loop-place.place _ (places c.loop-place.findings.parameters.items) c.loop-place-test.false c.loop-place.invariant.parameters
