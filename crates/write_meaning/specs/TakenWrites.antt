-- Which writes of a log count. One that holds a parameter, or isn't well typed over the catalogue at its place, is left
-- out.
use Rattle.std.specs.Prelude.{ℕ, ◌==◌, nat_lt, Bool, true, not, ◌&&◌, List, [], length}
use Rattle.std.specs.List.{list_all}
use Rattle.condition_sat.specs.Possible.{some_admitted}
use Rattle.feature_expr.specs.declared.expr.Expr.{Expr, fold-Expr}
use Rattle.feature_expr.specs.declared.expr.Expr.TheOpen.{Expr-F}
use Rattle.query_meaning.specs.WriteTyping.{write_name_cases, write_cases}
use Rattle.vra_syntax.specs.Parameters.{param_in_write}
use Rattle.vra_syntax.specs.declared.cond.Cond.{Cond, fold-Cond}
use Rattle.vra_syntax.specs.declared.cond.Cond.TheOpen.{Cond-F}
use Rattle.vra_syntax.specs.declared.cond.Operand.{Operand}
use Rattle.vra_syntax.specs.declared.write.Write.{Write}
use Rattle.vra_syntax.specs.declared.write.Write.TheVariants as write
use Rattle.vschema.specs.declared.catalog.Catalog.{Catalog}
use Rattle.vschema.specs.declared.catalog.Table.{Table}

abbrev pub expr_below_step : ℕ → Expr-F Bool → Bool
expr_below_step count Expr-F.True = true
expr_below_step count Expr-F.False = true
expr_below_step count (Expr-F.Feature feature) = nat_lt feature count
expr_below_step count (Expr-F.Not inner) = inner
expr_below_step count (Expr-F.And left right) = left && right
expr_below_step count (Expr-F.Or left right) = left && right

-- whether the features of an expression have numbers below the count
abbrev pub expr_below : ℕ → Expr → Bool
expr_below count expr = fold-Expr Bool (expr_below_step count) expr

abbrev pub cond_below_step : ℕ → Cond-F Bool → Bool
cond_below_step count (Cond-F.Cmp left sign right) = true
cond_below_step count (Cond-F.Not inner) = inner
cond_below_step count (Cond-F.And left right) = left && right
cond_below_step count (Cond-F.Or left right) = left && right
cond_below_step count (Cond-F.Choice expr left right) = expr_below count expr && left && right
cond_below_step count Cond-F.True = true
cond_below_step count Cond-F.False = true

abbrev pub cond_below : ℕ → Cond → Bool
cond_below count cond = fold-Cond Bool (cond_below_step count) cond

-- whether the features of a write have numbers below the count
abbrev pub write_below : ℕ → Write → Bool
write_below count (write.Insert table names rows expr) = expr_below count expr
write_below count (write.Delete table cond expr) = expr_below count expr && cond_below count cond
write_below count (write.Update table items cond expr) = expr_below count expr && cond_below count cond

-- whether each list of values is as long as the list of names
abbrev pub values_fit : Write → Bool
values_fit (write.Insert table names rows expr) = list_all (λ (values : List Operand). length values == length names) rows
values_fit (write.Delete table cond expr) = true
values_fit (write.Update table items cond expr) = true

-- whether a write has a type: no case of a refusal holds, whatever the variant or in an admitted one
abbrev pub has_type : Expr → List Table → Write → Bool
has_type model tables w = (length (write_name_cases [] tables w) == 0) && not (some_admitted model (λ c. not (length (write_cases c [] tables w) == 0)))

-- Whether a write counts. The parser gives no other features and no other lists of values, but a log may hold them.
abbrev pub is_taken : Catalog → Write → Bool
is_taken catalog w = (param_in_write w == 0) && write_below (length catalog.features) w && values_fit w && has_type catalog.model catalog.tables w
