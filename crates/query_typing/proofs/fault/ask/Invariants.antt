use Rattle.std.proofs.Common.{◌≡◌, take}
use Rattle.query_typing.specs.Faults.{NoCase, faults_at}
use Rattle.query_typing.proofs.fault.ask.Given as goal

abbrev pub invariant-loop-fault : goal.invariant-loop-fault
invariant-loop-fault l = record {
  same : l.questions ≡ l.fn.questions;
  none : NoCase l.fn.questions l.reach (λ c. faults_at c (take l.fault-index l.faults));
}
