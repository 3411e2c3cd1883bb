use Rattle.std.proofs.Common.{◌≡◌, take}
use Rattle.session_poll.specs.StartUps.{with_commas}
use Rattle.session_poll.proofs.start_up.feature_names.Given as goal

abbrev pub invariant-loop-feature : goal.invariant-loop-feature
invariant-loop-feature l = l.names.items ≡ with_commas (take l.feature l.features)
