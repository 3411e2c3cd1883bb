-- Queries that were taken apart from the left: each step goes round the left side inside it.
use Rattle.std.specs.Prelude.{ℕ, ◌+◌, max, List, [], ◌∷◌, Option, Some, None}
use Rattle.query_meaning.specs.Names.{Named, named_step, names_of}
use Rattle.query_names.specs.declared.name_steps.OneForm.{OneForm}
use Rattle.query_names.specs.declared.name_steps.OneForm.TheVariants as one
use Rattle.query_names.specs.declared.name_steps.TwoForm.{TwoForm}
use Rattle.query_names.specs.declared.name_steps.TwoForm.TheVariants as two
use Rattle.query_names.specs.declared.name_steps.NameStep.{NameStep}
use Rattle.query_names.specs.declared.name_steps.NameStep.TheVariants as step
use Rattle.vra_syntax.specs.declared.query.Query.{Query, size-Query}
use Rattle.vra_syntax.specs.declared.query.Query as query
use Rattle.vra_syntax.specs.declared.query.Query.TheOpen.{Query-F}
use Rattle.vschema.specs.declared.catalog.Table.{Table}

-- the innermost left side of a query: a table of some name, or the empty query
abbrev pub leaf_query : Option (List ℕ) → Query
leaf_query None = query.Empty
leaf_query (Some name) = query.Table name

abbrev pub one_wrapped : OneForm → Query → Query
one_wrapped (one.Select items cond) source = query.Select items.now source cond.now
one_wrapped (one.Alias name) source = query.Alias source name.now

abbrev pub two_wrapped : TwoForm → Query → Query → Query
two_wrapped (two.Join cond) left right = query.Join left right cond.now
two_wrapped two.Union left right = query.Union left right
two_wrapped two.Except left right = query.Except left right
two_wrapped (two.Choice expr) left right = query.Choice expr.now left right

abbrev pub wrapped : NameStep → Query → Query
wrapped (step.One form) source = one_wrapped form source
wrapped (step.Two form right) left = two_wrapped form left right.now

-- the whole query round its innermost left side; the first step is the outermost
abbrev pub rewrapped : List NameStep → Query → Query
rewrapped [] left = left
rewrapped (s ∷ ss) left = wrapped s (rewrapped ss left)

-- what the names of a form say, from what those of its parts say

abbrev pub one_named : OneForm → Named → Named
one_named (one.Select items cond) source = named_step [] (Query-F.Select items.now source cond.now)
one_named (one.Alias name) source = named_step [] (Query-F.Alias source name.now)

abbrev pub two_named : TwoForm → Named → Named → Named
two_named (two.Join cond) left right = named_step [] (Query-F.Join left right cond.now)
two_named two.Union left right = named_step [] (Query-F.Union left right)
two_named two.Except left right = named_step [] (Query-F.Except left right)
two_named (two.Choice expr) left right = named_step [] (Query-F.Choice expr.now left right)

abbrev pub around : List Table → NameStep → Named → Named
around tables (step.One form) source = one_named form source
around tables (step.Two form right) left = two_named form left (names_of tables right.now)

abbrev pub names_round : List Table → List NameStep → Named → Named
names_round tables [] left = left
names_round tables (s ∷ ss) left = around tables s (names_round tables ss left)

-- how deep a step's right side is; 0 where it has none
abbrev pub depth_of : NameStep → ℕ
depth_of (step.One form) = 0
depth_of (step.Two form right) = size-Query right.now + 1

abbrev pub deepest : List NameStep → ℕ
deepest [] = 0
deepest (s ∷ ss) = max (depth_of s) (deepest ss)
