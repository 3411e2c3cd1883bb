-- Chains that were taken apart from the left: each step goes round the left side inside it.
use Rattle.std.specs.Prelude.{List, [], ◌∷◌}
use Rattle.vra_syntax.specs.declared.bind_cond.CondStep.{CondStep}
use Rattle.vra_syntax.specs.declared.bind_cond.CondStep.TheVariants as cstep
use Rattle.vra_syntax.specs.declared.bind_query.QueryStep.{QueryStep}
use Rattle.vra_syntax.specs.declared.bind_query.QueryStep.TheVariants as qstep
use Rattle.vra_syntax.specs.declared.cond.Cond.{Cond}
use Rattle.vra_syntax.specs.declared.cond.Cond as cond
use Rattle.vra_syntax.specs.declared.query.Query.{Query}
use Rattle.vra_syntax.specs.declared.query.Query as query

abbrev pub wrapped_cond : CondStep → Cond → Cond
wrapped_cond cstep.Not inner = cond.Not inner
wrapped_cond (cstep.And right) left = cond.And left right
wrapped_cond (cstep.Or right) left = cond.Or left right
wrapped_cond (cstep.Choice expr right) left = cond.Choice expr left right

-- the whole chain round its innermost left side; the first step is the outermost
abbrev pub rewrapped_cond : List CondStep → Cond → Cond
rewrapped_cond [] left = left
rewrapped_cond (s ∷ ss) left = wrapped_cond s (rewrapped_cond ss left)

abbrev pub wrapped_query : QueryStep → Query → Query
wrapped_query (qstep.Select items c) source = query.Select items source c
wrapped_query (qstep.Join right c) left = query.Join left right c
wrapped_query (qstep.Union right) left = query.Union left right
wrapped_query (qstep.Except right) left = query.Except left right
wrapped_query (qstep.Alias name) source = query.Alias source name
wrapped_query (qstep.Choice expr right) left = query.Choice expr left right

-- the whole chain round its innermost left side; the first step is the outermost
abbrev pub rewrapped_query : List QueryStep → Query → Query
rewrapped_query [] left = left
rewrapped_query (s ∷ ss) left = wrapped_query s (rewrapped_query ss left)
