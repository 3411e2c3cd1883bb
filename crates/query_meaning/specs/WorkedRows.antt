-- Worked rows: what the definitions are on small tables, worked out by hand. `emp` has the columns `id` and `name`, and
-- `pay` in the variants with A; `dept` is there in the variants with B, with `id` and `title`; no variant has `ghost`.
use Rattle.std.specs.Prelude.{ℕ, ◌≡◌, true, false, codes, pos, List, [], ◌∷◌, Option, Some, None}
use Rattle.values.specs.declared.column_name.ColName.{ColName}
use Rattle.values.specs.declared.value.Kind.{Kind}
use Rattle.values.specs.declared.value.Kind.TheVariants as kind
use Rattle.values.specs.declared.value.Value.TheVariants as value
use Rattle.feature_expr.specs.declared.expr.Expr.{Expr}
use Rattle.feature_expr.specs.declared.expr.Expr as e
use Rattle.plain_relation.specs.Relations.{Cell, Column, Relation, absent}
use Rattle.vra_syntax.specs.declared.cond.Cond.{Cond}
use Rattle.vra_syntax.specs.declared.cond.Cond as cond
use Rattle.vra_syntax.specs.declared.cond.Op.TheVariants as op
use Rattle.vra_syntax.specs.declared.cond.Operand.{Operand}
use Rattle.vra_syntax.specs.declared.cond.Operand.TheVariants as operand
use Rattle.vra_syntax.specs.declared.items.Item.{Item}
use Rattle.vra_syntax.specs.declared.items.Items.TheVariants.{All, Listed}
use Rattle.vra_syntax.specs.declared.query.Query.{Query}
use Rattle.vra_syntax.specs.declared.query.Query as query
use Rattle.vra_syntax.specs.declared.write.Write.{Write}
use Rattle.vra_syntax.specs.declared.write.Write.TheVariants as write
use Rattle.vschema.specs.Variants.{bare_name}
use Rattle.vschema.specs.declared.catalog.Column as catalog
use Rattle.vschema.specs.declared.catalog.Table.{Table}
use Rattle.relational_algebra.specs.Columns.{merged}
use Rattle.relational_algebra.specs.Conditions.{holds}
use Rattle.relational_algebra.specs.Operations.{aliased_relation, chosen, excepted, filtered, joined, projected, united}
use Rattle.relational_algebra.specs.Values.{compares}
use Rattle.query_meaning.specs.Bounds.{Size, aliased_size, chosen_size, excepted_size, filtered_size, joined_size, kept_size, united_size, ways}
use Rattle.query_meaning.specs.Cases.{Case, case}
use Rattle.query_meaning.specs.PlainTypes.{PlainType, Ill, Columns, TypedPart, alias_type, plain_type, typed_part}
use Rattle.query_meaning.specs.WriteTyping.{write_cases}
use Rattle.query_meaning.specs.declared.ill.IllCase.TheVariants as ill

abbrev pub A : Expr
A = e.Feature 0

abbrev pub B : Expr
B = e.Feature 1

abbrev pub in_a : List ℕ
in_a = 0 ∷ []

abbrev pub in_b : List ℕ
in_b = 1 ∷ []

abbrev pub in_both : List ℕ
in_both = 0 ∷ 1 ∷ []

abbrev pub table_column : List ℕ → Kind → Expr → catalog.Column
table_column name kind cond = record { name = name; kind = kind; cond = cond }

abbrev pub emp : Table
emp = record { name = codes "emp"; columns = table_column (codes "id") kind.Int e.True ∷ table_column (codes "name") kind.Text e.True ∷ table_column (codes "pay") kind.Int A ∷ []; cond = e.True }

abbrev pub dept : Table
dept = record { name = codes "dept"; columns = table_column (codes "id") kind.Int e.True ∷ table_column (codes "title") kind.Text e.True ∷ []; cond = B }

abbrev pub ghost : Table
ghost = record { name = codes "ghost"; columns = table_column (codes "id") kind.Int e.True ∷ []; cond = e.False }

abbrev pub tables : List Table
tables = emp ∷ dept ∷ ghost ∷ []

abbrev pub EMP : Query
EMP = query.Table (codes "emp")

abbrev pub DEPT : Query
DEPT = query.Table (codes "dept")

abbrev pub GHOST : Query
GHOST = query.Table (codes "ghost")

abbrev pub column : List ℕ → Kind → Column
column name kind = record { name = bare_name name; kind = kind }

-- a column of integers behind a prefix
abbrev pub behind : List ℕ → List ℕ → Column
behind prefix base = record { name = record { prefix = Some prefix; base = base }; kind = kind.Int }

abbrev pub id : Column
id = column (codes "id") kind.Int

abbrev pub name : Column
name = column (codes "name") kind.Text

abbrev pub pay : Column
pay = column (codes "pay") kind.Int

abbrev pub title : Column
title = column (codes "title") kind.Text

abbrev pub a : Column
a = column (codes "a") kind.Int

abbrev pub b : Column
b = column (codes "b") kind.Int

abbrev pub x : Column
x = column (codes "x") kind.Int

abbrev pub y : Column
y = column (codes "y") kind.Int

abbrev pub x_text : Column
x_text = column (codes "x") kind.Text

abbrev pub part : List Column → PlainType → TypedPart
part possible type = record { possible = possible; type = type }

abbrev pub ill_by : Case → PlainType
ill_by one = Ill one []

abbrev pub item : List ℕ → Option ColName → Option Expr → Item
item column rename cond = record { column = bare_name column; rename = rename; cond = cond }

-- an item `.. as x`
abbrev pub as_x : List ℕ → Option Expr → Item
as_x column cond = item column (Some (bare_name (codes "x"))) cond

abbrev pub number : ℕ → Operand
number n = operand.Literal (value.Int (pos n))

abbrev pub named : List ℕ → Operand
named base = operand.Column (bare_name base)

-- `pay > 0`
abbrev pub pay_above_zero : Cond
pay_above_zero = cond.Cmp (named (codes "pay")) op.Gt (number 0)

-- `id = 1`
abbrev pub id_is_one : Cond
id_is_one = cond.Cmp (named (codes "id")) op.Eq (number 1)

-- `select * from emp where ..`
abbrev pub emp_where : Cond → Query
emp_where condition = query.Select All EMP condition

-- `select .. from emp`
abbrev pub from_emp : List Item → Query
from_emp items = query.Select (Listed items) EMP cond.True

-- `select id, pay from emp`, with a condition behind `pay`
abbrev pub id_and_pay : Option Expr → Query
id_and_pay when = from_emp (item (codes "id") None None ∷ item (codes "pay") None when ∷ [])

-- `select id as x when A, name as x when not A from emp`
abbrev pub id_or_name : Query
id_or_name = from_emp (as_x (codes "id") (Some A) ∷ as_x (codes "name") (Some (e.Not A)) ∷ [])

-- `choice[A](select id as x from emp, select name as x from emp)`
abbrev pub choice_of_x : Query
choice_of_x = query.Choice A (from_emp (as_x (codes "id") None ∷ [])) (from_emp (as_x (codes "name") None ∷ []))

-- Possible columns and plain types.
pub record WorkedTypes : Type 0 where
  -- a table without a variant has possible columns, and no others
  pub ghost_in_none : (c : List ℕ) → typed_part c [] tables GHOST ≡ part (id ∷ []) (Columns [])
  pub pay_is_there : plain_type in_a [] tables (emp_where pay_above_zero) ≡ Columns (id ∷ name ∷ pay ∷ [])
  pub pay_is_absent : plain_type in_b [] tables (emp_where pay_above_zero) ≡ ill_by (case ill.AbsentColumn (bare_name (codes "pay")))
  -- nothing is asked of the side of a condition that isn't chosen
  pub pay_guarded : plain_type in_b [] tables (emp_where (cond.Choice A pay_above_zero cond.False)) ≡ Columns (id ∷ name ∷ [])
  pub pay_needed : plain_type in_b [] tables (from_emp (item (codes "pay") None (Some B) ∷ [])) ≡ ill_by (case ill.AbsentColumn (bare_name (codes "pay")))
  -- one name is given twice, never in one variant
  pub first_given : typed_part in_a [] tables id_or_name ≡ part (x ∷ x_text ∷ []) (Columns (x ∷ []))
  pub second_given : typed_part in_b [] tables id_or_name ≡ part (x ∷ x_text ∷ []) (Columns (x_text ∷ []))
  -- a choice may have the columns of either side, and has those of the chosen one
  pub choice_left : typed_part in_a [] tables choice_of_x ≡ part (x ∷ x_text ∷ []) (Columns (x ∷ []))
  pub choice_right : typed_part in_b [] tables choice_of_x ≡ part (x ∷ x_text ∷ []) (Columns (x_text ∷ []))
  pub choice_of_absent : typed_part in_a [] tables (query.Choice A DEPT GHOST) ≡ part (id ∷ title ∷ []) (Columns [])
  pub columns_differ : plain_type in_both [] tables (query.Union (id_and_pay None) (id_and_pay (Some (e.And A (e.Not B))))) ≡ ill_by (case ill.ColumnsDiffer (bare_name (codes "id")))
  -- where a side is absent, a join is, and nothing is asked of a union or an except
  pub join_twice : plain_type in_b [] tables (query.Join EMP DEPT cond.True) ≡ ill_by (case ill.Twice (bare_name (codes "id")))
  pub join_absent : typed_part in_a [] tables (query.Join EMP DEPT cond.True) ≡ part (id ∷ name ∷ pay ∷ title ∷ []) (Columns [])
  pub union_absent : typed_part in_a [] tables (query.Union DEPT EMP) ≡ part (id ∷ title ∷ name ∷ pay ∷ []) (Columns (id ∷ name ∷ pay ∷ []))
  pub except_absent : typed_part in_a [] tables (query.Except EMP DEPT) ≡ part (id ∷ name ∷ pay ∷ []) (Columns (id ∷ name ∷ pay ∷ []))
  -- an alias that makes two names one
  pub alias_twice : alias_type (behind (codes "c") (codes "x") ∷ []) (codes "c") (behind (codes "a") (codes "x") ∷ behind (codes "b") (codes "x") ∷ []) ≡ ill_by (case ill.Twice (behind (codes "c") (codes "x")).name)

-- `update emp set pay = 30 where id = 1`
abbrev pub update : Expr → Write
update expr = write.Update (codes "emp") (record { column = codes "pay"; value = number 30 } ∷ []) id_is_one expr

-- `insert into emp (id, name) values (4, 'di')`
abbrev pub insert : Expr → Write
insert expr = write.Insert (codes "emp") (codes "id" ∷ codes "name" ∷ []) ((number 4 ∷ operand.Literal (value.Text (codes "di")) ∷ []) ∷ []) expr

-- What is asked of writes.
pub record WorkedWrites : Type 0 where
  pub pay_is_absent : write_cases in_b [] tables (update e.True) ≡ case ill.AbsentColumn (bare_name (codes "pay")) ∷ []
  pub acts_in_a : write_cases in_b [] tables (update A) ≡ []
  pub pay_is_missing : write_cases in_a [] tables (insert e.True) ≡ case ill.NoValue (bare_name (codes "pay")) ∷ []
  pub acts_elsewhere : write_cases in_a [] tables (insert (e.Not A)) ≡ []

abbrev pub relation : List Column → List (List Cell) → Relation
relation columns rows = record { columns = columns; rows = rows }

-- a cell of an integer
abbrev pub cell : List ℕ → ℕ → Cell
cell base n = record { name = bare_name base; value = value.Int (pos n) }

-- one column `x` and one row, 5
abbrev pub five : Relation
five = relation (x ∷ []) ((cell (codes "x") 5 ∷ []) ∷ [])

-- the same without a row
abbrev pub no_rows : Relation
no_rows = relation (x ∷ []) []

-- the possible columns of a join whose sides have `x`, each in other variants
abbrev pub shared_x : List Column
shared_x = merged (a ∷ x ∷ []) (b ∷ x ∷ [])

-- The operators on plain relations.
pub record WorkedMeanings : Type 0 where
  pub except_none : excepted five no_rows ≡ five
  pub except_same : excepted five five ≡ no_rows
  pub except_of_none : excepted no_rows five ≡ no_rows
  pub except_left_absent : excepted absent five ≡ absent
  pub except_right_absent : excepted five absent ≡ five
  pub union_both : united (x ∷ []) five no_rows ≡ five
  pub union_left_absent : united (x ∷ []) absent five ≡ five
  pub union_right_absent : united (x ∷ []) five absent ≡ five
  pub union_both_absent : united (x ∷ []) absent absent ≡ absent
  pub choice_of_absent : chosen (x ∷ []) absent ≡ absent
  pub filter_of_none : (c : List ℕ) (condition : Cond) → filtered c condition no_rows ≡ no_rows
  -- a select without columns is absent, whatever rows it has
  pub nothing_kept : projected (x ∷ []) in_b (Listed (item (codes "x") None (Some A) ∷ [])) five ≡ absent
  -- `x` comes from the left side in one variant, and from the right side in another
  pub join_shared_left : joined shared_x in_a cond.True (relation (a ∷ x ∷ []) ((cell (codes "a") 1 ∷ cell (codes "x") 5 ∷ []) ∷ [])) (relation (b ∷ []) ((cell (codes "b") 2 ∷ []) ∷ [])) ≡ relation (a ∷ x ∷ b ∷ []) ((cell (codes "a") 1 ∷ cell (codes "x") 5 ∷ cell (codes "b") 2 ∷ []) ∷ [])
  pub join_shared_right : joined shared_x in_b cond.True (relation (a ∷ []) ((cell (codes "a") 1 ∷ []) ∷ [])) (relation (b ∷ x ∷ []) ((cell (codes "b") 2 ∷ cell (codes "x") 7 ∷ []) ∷ [])) ≡ relation (a ∷ x ∷ b ∷ []) ((cell (codes "a") 1 ∷ cell (codes "x") 7 ∷ cell (codes "b") 2 ∷ []) ∷ [])
  pub join_with_none : joined (a ∷ x ∷ []) in_a cond.True (relation (a ∷ []) ((cell (codes "a") 1 ∷ []) ∷ [])) no_rows ≡ relation (a ∷ x ∷ []) []
  pub join_with_absent : joined (a ∷ x ∷ []) in_a cond.True (relation (a ∷ []) ((cell (codes "a") 1 ∷ []) ∷ [])) absent ≡ absent
  pub alias : aliased_relation (behind (codes "c") (codes "x") ∷ []) (codes "c") five ≡ relation (behind (codes "c") (codes "x") ∷ []) ((record { name = (behind (codes "c") (codes "x")).name; value = value.Int (pos 5) } ∷ []) ∷ [])
  -- a comparison of two kinds, or of what isn't there, is false whatever its sign, and its negation true
  pub other_kinds : compares op.Ne (Some (value.Int (pos 1))) (Some (value.Bool true)) ≡ false
  pub missing : compares op.Ne None (Some (value.Int (pos 1))) ≡ false
  pub unequal : compares op.Ne (Some (value.Int (pos 1))) (Some (value.Int (pos 2))) ≡ true
  pub negated : holds in_b (cond.Not pay_above_zero) (cell (codes "id") 1 ∷ []) ≡ true

abbrev pub size : ℕ → ℕ → ℕ → Size
size rows row_weight column_weight = record { rows = rows; row_weight = row_weight; column_weight = column_weight }

abbrev pub left : Size
left = size 3 4 5

abbrev pub right : Size
right = size 2 3 7

-- the possible columns of the two sides, of which `x` is one of both
abbrev pub of_left : List Column
of_left = a ∷ x ∷ []

abbrev pub of_right : List Column
of_right = b ∷ x ∷ y ∷ []

-- The bounds of each form.
pub record WorkedBounds : Type 0 where
  pub filter : filtered_size cond.True left ≡ size 3 10 5
  pub filter_by_one : filtered_size id_is_one left ≡ size 3 514 5
  pub keep : kept_size (Listed (item (codes "a") None None ∷ item (codes "x") None (Some A) ∷ [])) left ≡ size 3 136 44
  -- a name that two items give makes two rows of one
  pub keep_two : kept_size (Listed (as_x (codes "a") (Some A) ∷ as_x (codes "x") (Some B) ∷ [])) left ≡ size 6 272 44
  -- a column of both sides makes two rows of a pair
  pub join : joined_size of_left of_right cond.True left right ≡ size 12 802 58
  pub union : united_size of_left of_right left right ≡ size 5 53 17
  pub except : excepted_size of_left of_right left right ≡ size 3 265 5
  pub alias : aliased_size of_left (codes "c") left ≡ left
  -- an alias that makes two names one
  pub alias_two : aliased_size (behind (codes "a") (codes "x") ∷ behind (codes "b") (codes "x") ∷ []) (codes "c") left ≡ size 6 272 44
  pub choice : chosen_size of_left of_right A left right ≡ size 5 22 47
  pub six_ways : ways (bare_name (codes "x") ∷ bare_name (codes "a") ∷ bare_name (codes "x") ∷ bare_name (codes "a") ∷ bare_name (codes "x") ∷ []) ≡ 6
