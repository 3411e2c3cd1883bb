use Rattle.query_meaning.proofs.SizeLaws.{aliased_within, chosen_within, excepted_within, filtered_within, joined_within, kept_within, pairs_grow, pairs_stay, plan_size_grows, plan_size_stays, query_size_grows, query_size_stays, united_within}
use Rattle.query_meaning.proofs.laws.bound_laws.Goals as goal

-- src/laws.rt
pub returns-clause-filtered : goal.returns-clause-filtered
returns-clause-filtered c = filtered_within

pub returns-clause-kept : goal.returns-clause-kept
returns-clause-kept c = kept_within

pub returns-clause-joined : goal.returns-clause-joined
returns-clause-joined c = joined_within

pub returns-clause-united : goal.returns-clause-united
returns-clause-united c = united_within

pub returns-clause-excepted : goal.returns-clause-excepted
returns-clause-excepted c = excepted_within

pub returns-clause-aliased : goal.returns-clause-aliased
returns-clause-aliased c = aliased_within

pub returns-clause-chosen : goal.returns-clause-chosen
returns-clause-chosen c = chosen_within

pub returns-clause-plan_grows : goal.returns-clause-plan_grows
returns-clause-plan_grows c = λ sources sizes others p within. plan_size_grows sources sizes others within p

pub returns-clause-pairs_grow : goal.returns-clause-pairs_grow
returns-clause-pairs_grow c = λ sources sizes others p within. pairs_grow sources sizes others within p

pub returns-clause-query_grows : goal.returns-clause-query_grows
returns-clause-query_grows c = query_size_grows

pub returns-clause-plan_stays : goal.returns-clause-plan_stays
returns-clause-plan_stays c = plan_size_stays

pub returns-clause-pairs_stay : goal.returns-clause-pairs_stay
returns-clause-pairs_stay c = pairs_stay

pub returns-clause-query_stays : goal.returns-clause-query_stays
returns-clause-query_stays c = query_size_stays
