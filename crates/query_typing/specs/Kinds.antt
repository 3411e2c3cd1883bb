-- The kinds that an operand has in some variants, and when two operands have different ones.
use Rattle.std.specs.Prelude.{ℕ, List, [], ◌∷◌, map, option_to_list, if◌then◌else◌}
use Rattle.conditional_columns.specs.ColumnLists.{with_name}
use Rattle.feature_expr.specs.Expressions.{and_of, or_of}
use Rattle.feature_expr.specs.Satisfaction.{satisfies}
use Rattle.feature_expr.specs.declared.expr.Expr.{Expr}
use Rattle.feature_expr.specs.declared.expr.Expr as e
use Rattle.plain_relation.specs.Values.{same_kind}
use Rattle.query_meaning.specs.Parameters.{kind_at}
use Rattle.query_meaning.specs.declared.typed.TypedColumn.{TypedColumn}
use Rattle.query_typing.specs.declared.kinds.KindWhere.{KindWhere}
use Rattle.values.specs.Value.{kind_of}
use Rattle.values.specs.declared.value.Kind.{Kind}
use Rattle.vra_syntax.specs.declared.cond.Operand.{Operand}
use Rattle.vra_syntax.specs.declared.cond.Operand.TheVariants as operand

abbrev pub column_kind : TypedColumn → KindWhere
column_kind column = record { kind = column.kind; cond = column.cond }

abbrev pub kind_always : Kind → KindWhere
kind_always kind = record { kind = kind; cond = e.True }

abbrev pub operand_kinds_where : List Kind → List TypedColumn → Operand → List KindWhere
operand_kinds_where kinds columns (operand.Column name) = map column_kind (with_name name columns)
operand_kinds_where kinds columns (operand.Literal value) = kind_always (kind_of value) ∷ []
operand_kinds_where kinds columns (operand.Param number) = map kind_always (option_to_list (kind_at kinds number))

-- the kinds that are there in a variant
abbrev pub kinds_there : List ℕ → List KindWhere → List Kind
kinds_there c [] = []
kinds_there c (one ∷ kinds) = if satisfies c one.cond then one.kind ∷ kinds_there c kinds else kinds_there c kinds

-- the disjunction of a condition and those of other kinds than this one
abbrev pub other_from : Kind → Expr → List KindWhere → Expr
other_from kind whole [] = whole
other_from kind whole (one ∷ kinds) = other_from kind (if same_kind kind one.kind then whole else or_of whole one.cond) kinds

-- the disjunction of a condition and, for each kind, that it is there and another one of the right side is
abbrev pub differ_from : List KindWhere → Expr → List KindWhere → Expr
differ_from right whole [] = whole
differ_from right whole (one ∷ kinds) = differ_from right (or_of whole (and_of one.cond (other_from one.kind e.False right))) kinds
