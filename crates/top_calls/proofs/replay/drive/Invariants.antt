use Rattle.std.proofs.Common.{◌≡◌, ◌≤◌, length}
use Rattle.session_transactions.specs.Goings.{FitsStore}
use Rattle.store_states.specs.Views.{IsStore}
use Rattle.stored_versions.specs.Openings.{Opening}
use Rattle.top_calls.specs.Replays.{InReplay}
use Rattle.top_calls.proofs.replay.drive.Given as goal

-- the session stands at the end of a run over what it was fed, what was taken of its output was put out, and what the store
-- answered is in the run
abbrev pub invariant-turns : goal.invariant-turns
invariant-turns g l = record {
  quiet : (g.O.Sink.held l.out).faults ≡ (g.O.Sink.held l.fn.out).faults;
  within : l.fed ≤ length l.stream;
  fits : FitsStore l.session.transaction l.store;
  still : (opening : Opening) → IsStore opening l.fn.store → IsStore opening l.store;
  at : (opening : Opening) → IsStore opening l.fn.store → InReplay opening l.stream l.fed l.fn.store.moment l.store.moment (g.O.Sink.held l.fn.out).bytes (g.O.Sink.held l.out).bytes l.session;
}
