use Rattle.feature_expr.proofs.FaultLaws.{one_refusal}
use Rattle.feature_expr.proofs.FewestLaws.{fewest}
use Rattle.feature_expr.proofs.NestingLaws.{nests_within}
use Rattle.feature_expr.proofs.OccurringLaws.{names_spelled}
use Rattle.feature_expr.specs.ExprGrammar.{Disjunction}
use Rattle.feature_expr.proofs.OneLaws.{one_text}
use Rattle.feature_expr.proofs.PrintedLaws.{printed_text}
use Rattle.word_tokens.proofs.TokenLaws.{has_tokens}
use Rattle.feature_expr.specs.Printing.{text_of}
use Rattle.std.proofs.Common.{refl}
use Rattle.feature_expr.proofs.WholeLaws.{refused_for_memory}
use Rattle.feature_expr.proofs.laws.expression_laws.Goals as goal

pub returns-clause-one : goal.returns-clause-one
returns-clause-one c = one_text

pub returns-clause-faultless : goal.returns-clause-faultless
returns-clause-faultless c = refused_for_memory

pub returns-clause-split : goal.returns-clause-split
returns-clause-split c = has_tokens

pub returns-clause-printed : goal.returns-clause-printed
returns-clause-printed c = λ names most expr none named nests. let t = has_tokens (text_of names expr) in printed_text names (text_of names expr) t.tokens most expr none named nests refl t.are_tokens

pub returns-clause-again : goal.returns-clause-again
returns-clause-again c = λ names text most expr none t. returns-clause-printed c names most expr none (names_spelled names text t.tokens (Disjunction 0) 0 expr t.end t.spelled) (nests_within names text t.tokens most expr t.end t.spelled t.ends t.viable)

pub returns-clause-one_fault : goal.returns-clause-one_fault
returns-clause-one_fault c = one_refusal

pub returns-clause-fewest : goal.returns-clause-fewest
returns-clause-fewest c = λ names text most expr tokens printed good. fewest names good text most expr tokens printed
