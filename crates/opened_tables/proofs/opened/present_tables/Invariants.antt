use Rattle.std.proofs.Common.{◌≡◌}
use Rattle.opened_tables.specs.Opened.{IsSoFar}
use Rattle.opened_tables.proofs.opened.present_tables.Given as goal

abbrev pub invariant-loop-it : goal.invariant-loop-it
invariant-loop-it l = (l.questions ≡ l.fn.questions) × IsSoFar l.fn.questions l.fn.tables l.tables l.yielded l.present.items
