use Rattle.std.proofs.Common.{◌≡◌, ◌+◌}
use Rattle.snapshot_store.specs.Parts.{Applies}
use Rattle.snapshot_store.proofs.store.Store.apply_seen.Given as goal

-- the commits up to this place are applied
abbrev pub invariant-loop-place : goal.invariant-loop-place
invariant-loop-place g l = Applies l.fn.self l.self × (l.self.rows.applied ≡ l.place)
