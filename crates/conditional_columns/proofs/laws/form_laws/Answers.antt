use Rattle.conditional_columns.proofs.FormLaws.{alias_possible, alias_there, choice_possible, choice_there, join_possible, join_there, left_in_order, select_possible, select_there, union_possible, union_there}
use Rattle.conditional_columns.proofs.WeightLaws.{alias_weight, choice_weight, join_weight, select_weight, union_weight}
use Rattle.conditional_columns.proofs.laws.form_laws.Goals as goal

-- src/laws.rt
pub returns-clause-select_possible : goal.returns-clause-select_possible
returns-clause-select_possible c = select_possible

pub returns-clause-join_possible : goal.returns-clause-join_possible
returns-clause-join_possible c = join_possible

pub returns-clause-union_possible : goal.returns-clause-union_possible
returns-clause-union_possible c = union_possible

pub returns-clause-choice_possible : goal.returns-clause-choice_possible
returns-clause-choice_possible c = choice_possible

pub returns-clause-alias_possible : goal.returns-clause-alias_possible
returns-clause-alias_possible c = alias_possible

pub returns-clause-select_there : goal.returns-clause-select_there
returns-clause-select_there c = select_there

pub returns-clause-join_there : goal.returns-clause-join_there
returns-clause-join_there c = join_there

pub returns-clause-union_there : goal.returns-clause-union_there
returns-clause-union_there c = union_there

pub returns-clause-choice_there : goal.returns-clause-choice_there
returns-clause-choice_there c = choice_there

pub returns-clause-alias_there : goal.returns-clause-alias_there
returns-clause-alias_there c = alias_there

pub returns-clause-select_weight : goal.returns-clause-select_weight
returns-clause-select_weight c = select_weight

pub returns-clause-join_weight : goal.returns-clause-join_weight
returns-clause-join_weight c = join_weight

pub returns-clause-union_weight : goal.returns-clause-union_weight
returns-clause-union_weight c = union_weight

pub returns-clause-choice_weight : goal.returns-clause-choice_weight
returns-clause-choice_weight c = choice_weight

pub returns-clause-alias_weight : goal.returns-clause-alias_weight
returns-clause-alias_weight c = alias_weight

pub returns-clause-left_in_order : goal.returns-clause-left_in_order
returns-clause-left_in_order c = left_in_order
