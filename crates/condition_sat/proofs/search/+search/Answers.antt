use Rattle.std.proofs.Common.{arith}
use Rattle.condition_sat.specs.Search.{admits_all}
use Rattle.condition_sat.proofs.Splits.{fewer_holding, fewer_without, none_of_both}
use Rattle.condition_sat.proofs.search.+search.Goals as goal

pub search-requires : goal.search-requires
search-requires t c =
    let fewer = fewer_holding c.args.assignment.now c.holding.result _ c.in-Undecided.ensures.0 (record { held = c.holding.ensures.held; lacking = c.holding.ensures.lacking }) in
    (omega (arith, fewer, c.decreases), tt)

pub search-requires-in-None : goal.search-requires-in-None
search-requires-in-None t c =
    let fewer = fewer_without c.args.assignment.now c.without.result _ c.in-Undecided.ensures.0 (record { held = c.without.ensures.held; lacking = c.without.ensures.lacking }) in
    (omega (arith, fewer, c.decreases), tt)

pub returns-in-None-clause-none : goal.returns-in-None-clause-none
returns-in-None-clause-none t c =
    none_of_both (admits_all c.args.model.now c.args.asked.now) _ _ _ _ c.search-in-None.result
    (record { held = c.holding.ensures.held; lacking = c.holding.ensures.lacking })
    (record { held = c.without.ensures.held; lacking = c.without.ensures.lacking })
    c.in-None.ensures.none c.search-in-None.ensures.none
