use Rattle.session_transactions.specs.Goings.{FitsStore, IsBeside}
use Rattle.session_tests.proofs.transactions.play.Given as goal

-- each session fits the store, beside the other
abbrev pub invariant-starts : goal.invariant-starts
invariant-starts g l = record {
  x : FitsStore l.x.transaction l.store;
  y : FitsStore l.y.transaction l.store;
  beside_x : IsBeside l.x.transaction l.y.transaction l.store;
  beside_y : IsBeside l.y.transaction l.x.transaction l.store;
}

abbrev pub invariant-steps : goal.invariant-steps
invariant-steps g l = record {
  x : FitsStore l.x.transaction l.store;
  y : FitsStore l.y.transaction l.store;
  beside_x : IsBeside l.x.transaction l.y.transaction l.store;
  beside_y : IsBeside l.y.transaction l.x.transaction l.store;
}
