use Rattle.std.proofs.Common.{◌≡◌, drop}
use Rattle.std.specs.Option.{option_map}
use Rattle.session_poll.specs.StartUps.{value_of, later_or}
use Rattle.session_poll.proofs.start_up.last_value.Given as goal

-- the last value among the pairs that are left counts before the one that was found
abbrev pub invariant-pairs : goal.invariant-pairs
invariant-pairs l = later_or (value_of l.name (drop l.pair-index l.pairs)) (option_map (λ value. value.now) l.found) ≡ value_of l.name l.pairs
