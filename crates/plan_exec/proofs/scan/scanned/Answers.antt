use Rattle.std.proofs.Common.{◌∙◌}
use Rattle.plan_exec.proofs.ScanLaws.{scanned_are}
use Rattle.plan_exec.proofs.scan.scanned.Goals as goal

pub returns : goal.returns
returns c = scanned_are c.args.plan.now c.from_vec.result c.new-none.result.items c.new-none.ensures.items (c.from_vec.ensures ∙ c.in_ok-numbers.ensures)
