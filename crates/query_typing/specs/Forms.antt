-- Each form over columns under conditions, as a part.
use Rattle.std.specs.Prelude.{ℕ, List, []}
use Rattle.query_meaning.specs.PlainTypes.{TypedPart, type_step}
use Rattle.query_meaning.specs.declared.typed.TypedColumn.{TypedColumn}
use Rattle.feature_expr.specs.declared.expr.Expr.{Expr}
use Rattle.query_typing.specs.Parts.{plain_part}
use Rattle.values.specs.declared.value.Kind.{Kind}
use Rattle.vra_syntax.specs.declared.cond.Cond.{Cond}
use Rattle.vra_syntax.specs.declared.items.Items.{Items}
use Rattle.vra_syntax.specs.declared.query.Query.TheOpen.{Query-F}

abbrev pub select_part : List Kind → Items → Cond → List TypedColumn → List ℕ → TypedPart
select_part kinds items cond source c = type_step c kinds [] (Query-F.Select items (plain_part source c) cond)

abbrev pub alias_part : List Kind → List ℕ → List TypedColumn → List ℕ → TypedPart
alias_part kinds name source c = type_step c kinds [] (Query-F.Alias (plain_part source c) name)

abbrev pub join_part : List Kind → Cond → List TypedColumn → List TypedColumn → List ℕ → TypedPart
join_part kinds cond left right c = type_step c kinds [] (Query-F.Join (plain_part left c) (plain_part right c) cond)

abbrev pub union_part : List Kind → List TypedColumn → List TypedColumn → List ℕ → TypedPart
union_part kinds left right c = type_step c kinds [] (Query-F.Union (plain_part left c) (plain_part right c))

abbrev pub except_part : List Kind → List TypedColumn → List TypedColumn → List ℕ → TypedPart
except_part kinds left right c = type_step c kinds [] (Query-F.Except (plain_part left c) (plain_part right c))

abbrev pub choice_part : List Kind → Expr → List TypedColumn → List TypedColumn → List ℕ → TypedPart
choice_part kinds expr left right c = type_step c kinds [] (Query-F.Choice expr (plain_part left c) (plain_part right c))
