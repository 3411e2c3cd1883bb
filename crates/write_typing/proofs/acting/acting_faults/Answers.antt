use Rattle.std.proofs.Common.{ap}
use Rattle.query_meaning.specs.Typing.{columns_at}
use Rattle.query_typing.specs.Faults.{faults_at}
use Rattle.write_typing.proofs.ActingLaws.{update_asked}
use Rattle.write_typing.proofs.acting.acting_faults.Goals as goal

pub returns-in_ok-add_cond-in-Update : goal.returns-in_ok-add_cond-in-Update
returns-in_ok-add_cond-in-Update c = λ d. update_asked d c.args.kinds.now (columns_at d c.args.columns.now) c.args.write.now _ _ _ _ c.args.names.now _ _ _ c.in-Update.is c.requires (ap (faults_at d) c.new-faults.ensures.items) (c.in_ok-add_absent_names-in-Update.ensures d) (c.in_ok-add_cond-in-Update.ensures d)
