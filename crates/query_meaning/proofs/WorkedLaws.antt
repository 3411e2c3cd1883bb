-- The worked rows, computed by the definitions.
use Rattle.std.proofs.Common.{◌≡◌, ℕ, List, [], ◌∷◌, Option, Some, None, refl, ◌∙◌, ap}
use Rattle.std.specs.Prelude.{codes}
use Rattle.feature_expr.specs.declared.expr.Expr.{Expr}
use Rattle.feature_expr.specs.declared.expr.Expr as e
use Rattle.plain_relation.specs.Relations.{Column}
use Rattle.vra_syntax.specs.declared.cond.Cond.{Cond}
use Rattle.vra_syntax.specs.declared.cond.Cond as cond
use Rattle.vra_syntax.specs.declared.cond.Op.TheVariants as op
use Rattle.vra_syntax.specs.declared.items.Items.{Items}
use Rattle.vra_syntax.specs.declared.items.Items.TheVariants.{All, Listed}
use Rattle.vra_syntax.specs.declared.query.Query.{Query}
use Rattle.vra_syntax.specs.declared.query.Query as query
use Rattle.vra_syntax.specs.declared.query.Query.TheOpen.{Query-F}
use Rattle.query_meaning.specs.PlainTypes.{PlainType, Columns, TypedPart, type_step, typed_part}
use Rattle.query_meaning.specs.WorkedRows.{A, B, DEPT, EMP, GHOST, WorkedBounds, WorkedMeanings, WorkedTypes, WorkedWrites, as_x, cell, from_emp, id, id_and_pay, in_a, in_b, in_both, item, name, named, number, part, pay, pay_above_zero, tables, title, x, x_text}
use Rattle.query_meaning.proofs.Layers.{asked_choice, asked_cmp, asked_false, asked_true, cost_cmp, cost_true, holds_cmp, holds_not, holds_true, sat_and, sat_false, sat_feature, sat_not, sat_true, typed_choice, typed_except, typed_join, typed_select, typed_table, typed_union, weight_feature, weight_true}

-- the tables in each variant

emp_in_a : typed_part in_a [] tables EMP ≡ part (id ∷ name ∷ pay ∷ []) (Columns (id ∷ name ∷ pay ∷ []))
emp_in_a = typed_table in_a [] tables (codes "emp") ∙ rw (sat_true in_a, sat_feature in_a 0) refl

emp_in_b : typed_part in_b [] tables EMP ≡ part (id ∷ name ∷ pay ∷ []) (Columns (id ∷ name ∷ []))
emp_in_b = typed_table in_b [] tables (codes "emp") ∙ rw (sat_true in_b, sat_feature in_b 0) refl

emp_in_both : typed_part in_both [] tables EMP ≡ part (id ∷ name ∷ pay ∷ []) (Columns (id ∷ name ∷ pay ∷ []))
emp_in_both = typed_table in_both [] tables (codes "emp") ∙ rw (sat_true in_both, sat_feature in_both 0) refl

dept_in_a : typed_part in_a [] tables DEPT ≡ part (id ∷ title ∷ []) (Columns [])
dept_in_a = typed_table in_a [] tables (codes "dept") ∙ rw (sat_feature in_a 1) refl

dept_in_b : typed_part in_b [] tables DEPT ≡ part (id ∷ title ∷ []) (Columns (id ∷ title ∷ []))
dept_in_b = typed_table in_b [] tables (codes "dept") ∙ rw (sat_true in_b, sat_feature in_b 1) refl

ghost_in_none : (c : List ℕ) → typed_part c [] tables GHOST ≡ part (id ∷ []) (Columns [])
ghost_in_none c = typed_table c [] tables (codes "ghost") ∙ rw (sat_false c) refl

-- a select over `emp`, and forms over two parts, where the parts are known

select_of : (c : List ℕ) (items : Items) (condition : Cond) (source : TypedPart) → typed_part c [] tables EMP ≡ source → typed_part c [] tables (query.Select items EMP condition) ≡ type_step c [] tables (Query-F.Select items source condition)
select_of c items condition source is = typed_select c [] tables items EMP condition ∙ ap (λ (p : TypedPart). type_step c [] tables (Query-F.Select items p condition)) is

join_of : (c : List ℕ) (one other : Query) (left right : TypedPart) → typed_part c [] tables one ≡ left → typed_part c [] tables other ≡ right → typed_part c [] tables (query.Join one other cond.True) ≡ type_step c [] tables (Query-F.Join left right cond.True)
join_of c one other left right is also =
    typed_join c [] tables one other cond.True
    ∙ ap (λ (p : TypedPart). type_step c [] tables (Query-F.Join p (typed_part c [] tables other) cond.True)) is ∙ ap (λ (p : TypedPart). type_step c [] tables (Query-F.Join left p cond.True)) also

union_of : (c : List ℕ) (one other : Query) (left right : TypedPart) → typed_part c [] tables one ≡ left → typed_part c [] tables other ≡ right → typed_part c [] tables (query.Union one other) ≡ type_step c [] tables (Query-F.Union left right)
union_of c one other left right is also =
    typed_union c [] tables one other
    ∙ ap (λ (p : TypedPart). type_step c [] tables (Query-F.Union p (typed_part c [] tables other))) is ∙ ap (λ (p : TypedPart). type_step c [] tables (Query-F.Union left p)) also

except_of : (c : List ℕ) (one other : Query) (left right : TypedPart) → typed_part c [] tables one ≡ left → typed_part c [] tables other ≡ right → typed_part c [] tables (query.Except one other) ≡ type_step c [] tables (Query-F.Except left right)
except_of c one other left right is also =
    typed_except c [] tables one other
    ∙ ap (λ (p : TypedPart). type_step c [] tables (Query-F.Except p (typed_part c [] tables other))) is ∙ ap (λ (p : TypedPart). type_step c [] tables (Query-F.Except left p)) also

choice_of : (c : List ℕ) (one other : Query) (left right : TypedPart) → typed_part c [] tables one ≡ left → typed_part c [] tables other ≡ right → typed_part c [] tables (query.Choice A one other) ≡ type_step c [] tables (Query-F.Choice A left right)
choice_of c one other left right is also =
    typed_choice c [] tables A one other
    ∙ ap (λ (p : TypedPart). type_step c [] tables (Query-F.Choice A p (typed_part c [] tables other))) is ∙ ap (λ (p : TypedPart). type_step c [] tables (Query-F.Choice A left p)) also

abbrev type_of : TypedPart → PlainType
type_of p = p.type

-- `select id as x from emp` and `select name as x from emp`

ids : (c : List ℕ) (columns : List Column) → typed_part c [] tables EMP ≡ part (id ∷ name ∷ pay ∷ []) (Columns (id ∷ name ∷ columns)) → typed_part c [] tables (from_emp (as_x (codes "id") None ∷ [])) ≡ type_step c [] tables (Query-F.Select (Listed (as_x (codes "id") None ∷ [])) (part (id ∷ name ∷ pay ∷ []) (Columns (id ∷ name ∷ columns))) cond.True)
ids c columns is = select_of c (Listed (as_x (codes "id") None ∷ [])) cond.True (part (id ∷ name ∷ pay ∷ []) (Columns (id ∷ name ∷ columns))) is

ids_in_a : typed_part in_a [] tables (from_emp (as_x (codes "id") None ∷ [])) ≡ part (x ∷ []) (Columns (x ∷ []))
ids_in_a = ids in_a (pay ∷ []) emp_in_a ∙ rw (asked_true in_a [] (id ∷ name ∷ pay ∷ [])) refl

ids_in_b : typed_part in_b [] tables (from_emp (as_x (codes "id") None ∷ [])) ≡ part (x ∷ []) (Columns (x ∷ []))
ids_in_b = ids in_b [] emp_in_b ∙ rw (asked_true in_b [] (id ∷ name ∷ [])) refl

names : (c : List ℕ) (source : TypedPart) → typed_part c [] tables EMP ≡ source → typed_part c [] tables (from_emp (as_x (codes "name") None ∷ [])) ≡ type_step c [] tables (Query-F.Select (Listed (as_x (codes "name") None ∷ [])) source cond.True)
names c source is = select_of c (Listed (as_x (codes "name") None ∷ [])) cond.True source is

names_in_a : typed_part in_a [] tables (from_emp (as_x (codes "name") None ∷ [])) ≡ part (x_text ∷ []) (Columns (x_text ∷ []))
names_in_a = names in_a (part (id ∷ name ∷ pay ∷ []) (Columns (id ∷ name ∷ pay ∷ []))) emp_in_a ∙ rw (asked_true in_a [] (id ∷ name ∷ pay ∷ [])) refl

names_in_b : typed_part in_b [] tables (from_emp (as_x (codes "name") None ∷ [])) ≡ part (x_text ∷ []) (Columns (x_text ∷ []))
names_in_b = names in_b (part (id ∷ name ∷ pay ∷ []) (Columns (id ∷ name ∷ []))) emp_in_b ∙ rw (asked_true in_b [] (id ∷ name ∷ [])) refl

-- `select id, pay from emp`, with a condition behind `pay`

abbrev both_items : Option Expr → Items
both_items when = Listed (item (codes "id") None None ∷ item (codes "pay") None when ∷ [])

with_pay : typed_part in_both [] tables (id_and_pay None) ≡ part (id ∷ pay ∷ []) (Columns (id ∷ pay ∷ []))
with_pay = select_of in_both (both_items None) cond.True (part (id ∷ name ∷ pay ∷ []) (Columns (id ∷ name ∷ pay ∷ []))) emp_in_both ∙ rw (asked_true in_both [] (id ∷ name ∷ pay ∷ [])) refl

abbrev A_alone : Expr
A_alone = e.And A (e.Not B)

without_pay : typed_part in_both [] tables (id_and_pay (Some A_alone)) ≡ part (id ∷ pay ∷ []) (Columns (id ∷ []))
without_pay =
    select_of in_both (both_items (Some A_alone)) cond.True (part (id ∷ name ∷ pay ∷ []) (Columns (id ∷ name ∷ pay ∷ []))) emp_in_both
    ∙ rw (asked_true in_both [] (id ∷ name ∷ pay ∷ []), sat_and in_both A (e.Not B), sat_not in_both B, sat_feature in_both 0, sat_feature in_both 1) refl

abbrev either_item : Items
either_item = Listed (as_x (codes "id") (Some A) ∷ as_x (codes "name") (Some (e.Not A)) ∷ [])

pub types : WorkedTypes
types = record {
  ghost_in_none = ghost_in_none;
  pay_is_there = ap type_of (select_of in_a All pay_above_zero (part (id ∷ name ∷ pay ∷ []) (Columns (id ∷ name ∷ pay ∷ []))) emp_in_a) ∙ rw (asked_cmp in_a [] (id ∷ name ∷ pay ∷ []) (named (codes "pay")) op.Gt (number 0)) refl;
  pay_is_absent = ap type_of (select_of in_b All pay_above_zero (part (id ∷ name ∷ pay ∷ []) (Columns (id ∷ name ∷ []))) emp_in_b) ∙ rw (asked_cmp in_b [] (id ∷ name ∷ []) (named (codes "pay")) op.Gt (number 0)) refl;
  pay_guarded = ap type_of (select_of in_b All (cond.Choice A pay_above_zero cond.False) (part (id ∷ name ∷ pay ∷ []) (Columns (id ∷ name ∷ []))) emp_in_b) ∙ rw (asked_choice in_b [] (id ∷ name ∷ []) A pay_above_zero cond.False, sat_feature in_b 0, asked_false in_b [] (id ∷ name ∷ [])) refl;
  pay_needed = ap type_of (select_of in_b (Listed (item (codes "pay") None (Some B) ∷ [])) cond.True (part (id ∷ name ∷ pay ∷ []) (Columns (id ∷ name ∷ []))) emp_in_b) ∙ rw (asked_true in_b [] (id ∷ name ∷ []), sat_feature in_b 1) refl;
  first_given = select_of in_a either_item cond.True (part (id ∷ name ∷ pay ∷ []) (Columns (id ∷ name ∷ pay ∷ []))) emp_in_a ∙ rw (asked_true in_a [] (id ∷ name ∷ pay ∷ []), sat_not in_a A, sat_feature in_a 0) refl;
  second_given = select_of in_b either_item cond.True (part (id ∷ name ∷ pay ∷ []) (Columns (id ∷ name ∷ []))) emp_in_b ∙ rw (asked_true in_b [] (id ∷ name ∷ []), sat_not in_b A, sat_feature in_b 0) refl;
  choice_left = choice_of in_a _ _ (part (x ∷ []) (Columns (x ∷ []))) (part (x_text ∷ []) (Columns (x_text ∷ []))) ids_in_a names_in_a ∙ rw (sat_feature in_a 0) refl;
  choice_right = choice_of in_b _ _ (part (x ∷ []) (Columns (x ∷ []))) (part (x_text ∷ []) (Columns (x_text ∷ []))) ids_in_b names_in_b ∙ rw (sat_feature in_b 0) refl;
  choice_of_absent = choice_of in_a DEPT GHOST (part (id ∷ title ∷ []) (Columns [])) (part (id ∷ []) (Columns [])) dept_in_a (ghost_in_none in_a) ∙ rw (sat_feature in_a 0) refl;
  columns_differ = ap type_of (union_of in_both _ _ (part (id ∷ pay ∷ []) (Columns (id ∷ pay ∷ []))) (part (id ∷ pay ∷ []) (Columns (id ∷ []))) with_pay without_pay);
  join_twice = ap type_of (join_of in_b EMP DEPT (part (id ∷ name ∷ pay ∷ []) (Columns (id ∷ name ∷ []))) (part (id ∷ title ∷ []) (Columns (id ∷ title ∷ []))) emp_in_b dept_in_b) ∙ rw (asked_true in_b [] (id ∷ name ∷ id ∷ title ∷ [])) refl;
  join_absent = join_of in_a EMP DEPT (part (id ∷ name ∷ pay ∷ []) (Columns (id ∷ name ∷ pay ∷ []))) (part (id ∷ title ∷ []) (Columns [])) emp_in_a dept_in_a;
  union_absent = union_of in_a DEPT EMP (part (id ∷ title ∷ []) (Columns [])) (part (id ∷ name ∷ pay ∷ []) (Columns (id ∷ name ∷ pay ∷ []))) dept_in_a emp_in_a;
  except_absent = except_of in_a EMP DEPT (part (id ∷ name ∷ pay ∷ []) (Columns (id ∷ name ∷ pay ∷ []))) (part (id ∷ title ∷ []) (Columns [])) emp_in_a dept_in_a;
  alias_twice = refl;
}

pub writes : WorkedWrites
writes = record {
  pay_is_absent = rw (sat_true in_b, sat_feature in_b 0, asked_cmp in_b [] (id ∷ name ∷ []) (named (codes "id")) op.Eq (number 1)) refl;
  acts_in_a = rw (sat_feature in_b 0) refl;
  pay_is_missing = rw (sat_true in_a, sat_feature in_a 0) refl;
  acts_elsewhere = rw (sat_not in_a A, sat_feature in_a 0) refl;
}

pub meanings : WorkedMeanings
meanings = record {
  except_none = refl;
  except_same = refl;
  except_of_none = refl;
  except_left_absent = refl;
  except_right_absent = refl;
  union_both = refl;
  union_left_absent = refl;
  union_right_absent = refl;
  union_both_absent = refl;
  choice_of_absent = refl;
  filter_of_none = λ c condition. refl;
  nothing_kept = rw (sat_feature in_b 0) refl;
  join_shared_left = rw (holds_true in_a (cell (codes "a") 1 ∷ cell (codes "x") 5 ∷ cell (codes "b") 2 ∷ [])) refl;
  join_shared_right = rw (holds_true in_b (cell (codes "a") 1 ∷ cell (codes "b") 2 ∷ cell (codes "x") 7 ∷ [])) refl;
  join_with_none = refl;
  join_with_absent = refl;
  alias = refl;
  other_kinds = refl;
  missing = refl;
  unequal = refl;
  negated = rw (holds_not in_b pay_above_zero (cell (codes "id") 1 ∷ []), holds_cmp in_b (named (codes "pay")) op.Gt (number 0) (cell (codes "id") 1 ∷ [])) refl;
}

pub bounds : WorkedBounds
bounds = record {
  filter = rw (cost_true 5) refl;
  filter_by_one = rw (cost_cmp (named (codes "id")) op.Eq (number 1) 5) refl;
  keep = rw (weight_true, weight_feature 0) refl;
  keep_two = rw (weight_feature 0, weight_feature 1) refl;
  join = rw (cost_true 58) refl;
  union = refl;
  except = refl;
  alias = refl;
  alias_two = refl;
  choice = rw (weight_feature 0) refl;
  six_ways = refl;
}
