use Rattle.query_names.proofs.NumberLaws.{numbered_at}
use Rattle.query_names.proofs.table_names.TableNames.new.Goals as goal

pub loop-place-preserved : goal.loop-place-preserved
loop-place-preserved c = λ name. numbered_at c.args.tables.now c.loop-place.place c.index-tables-place.result name _ _ c.loop-place-test.true c.index-tables-place.is (c.loop-place.invariant name) (c.in_ok-add_name.ensures name)
