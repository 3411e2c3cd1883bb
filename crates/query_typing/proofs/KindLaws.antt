-- The kinds of operands in a variant, and when two operands have different ones.
use Rattle.std.proofs.Common.{◌≡◌, ◌&&◌, ◌||◌, ℕ, Bool, true, false, List, [], ◌∷◌, ◌++◌, refl, sym, ◌∙◌, ap, map, Option, Some, None, option_to_list, if◌then◌else◌}
use Rattle.conditional_columns.specs.ColumnLists.{with_name}
use Rattle.feature_expr.specs.Expressions.{and_of, or_of}
use Rattle.feature_expr.specs.Satisfaction.{satisfies}
use Rattle.feature_expr.specs.declared.expr.Expr.{Expr}
use Rattle.feature_expr.specs.declared.expr.Expr as e
use Rattle.plain_relation.specs.Relations.{same_name}
use Rattle.plain_relation.specs.Values.{same_kind}
use Rattle.query_meaning.specs.Cases.{Case, case, operand_name}
use Rattle.query_meaning.specs.Parameters.{kind_at}
use Rattle.query_meaning.specs.PlainTypes.{is_other_kind, kinds_differ, operand_kinds}
use Rattle.query_meaning.specs.Typing.{columns_at}
use Rattle.query_meaning.specs.declared.ill.IllCase.TheVariants as ill
use Rattle.query_meaning.specs.declared.typed.TypedColumn.{TypedColumn}
use Rattle.conditional_columns.proofs.Connectives.{and_holds, holds_False, holds_True, or_holds}
use Rattle.query_typing.specs.Kinds.{column_kind, differ_from, kind_always, kinds_there, operand_kinds_where, other_from}
use Rattle.query_typing.specs.declared.kinds.KindWhere.{KindWhere}
use Rattle.relational_algebra.specs.Columns.{kinds_of, named}
use Rattle.values.specs.declared.column_name.ColName.{ColName}
use Rattle.values.specs.declared.value.Kind.{Kind}
use Rattle.vra_syntax.specs.declared.cond.Operand.{Operand}
use Rattle.vra_syntax.specs.declared.cond.Operand.TheVariants as operand

one_more : (c : List ℕ) (name : ColName) (k : TypedColumn) (ks : List TypedColumn) (a b : Bool) → same_name k.name name ≡ a → satisfies c k.cond ≡ b → kinds_there c (map column_kind (with_name name ks)) ≡ kinds_of (named name (columns_at c ks)) → kinds_there c (map column_kind (with_name name (k ∷ ks))) ≡ kinds_of (named name (columns_at c (k ∷ ks)))
one_more c name k ks true true here there more = simp (here, there) (ap (λ xs. k.kind ∷ xs) more)
one_more c name k ks true false here there more = simp (here, there) more
one_more c name k ks false true here there more = simp (here, there) more
one_more c name k ks false false here there more = simp (here, there) more

column_kinds_there : (c : List ℕ) (name : ColName) (ks : List TypedColumn) → kinds_there c (map column_kind (with_name name ks)) ≡ kinds_of (named name (columns_at c ks))
column_kinds_there c name [] = refl
column_kinds_there c name (k ∷ ks) = one_more c name k ks (same_name k.name name) (satisfies c k.cond) refl refl (column_kinds_there c name ks)

always_there : (c : List ℕ) (kind : Option Kind) → kinds_there c (map kind_always (option_to_list kind)) ≡ option_to_list kind
always_there c None = refl
always_there c (Some kind) = rw (holds_True c) refl

pub operand_kinds_there : (c : List ℕ) (kinds : List Kind) (ks : List TypedColumn) (one : Operand) → kinds_there c (operand_kinds_where kinds ks one) ≡ operand_kinds kinds (columns_at c ks) one
operand_kinds_there c kinds ks (operand.Column name) = column_kinds_there c name ks
operand_kinds_there c kinds ks (operand.Literal value) = rw (holds_True c) refl
operand_kinds_there c kinds ks (operand.Param number) = always_there c (kind_at kinds number)

no_more : (s : Bool) → s ≡ (s || false)
no_more true = refl
no_more false = refl

other_by : (c : List ℕ) (whole cond : Expr) (kind k : Kind) (more : List Kind) (a b : Bool) → same_kind kind k ≡ a → satisfies c cond ≡ b → (satisfies c (if a then whole else or_of whole cond) || is_other_kind more kind) ≡ (satisfies c whole || is_other_kind (if b then k ∷ more else more) kind)
other_by c whole cond kind k more true true same there = rw same refl
other_by c whole cond kind k more true false same there = refl
other_by c whole cond kind k more false true same there = rw (or_holds c whole cond, there, same) (some (satisfies c whole) (is_other_kind more kind))
  where
    some : (s r : Bool) → ((s || true) || r) ≡ (s || true)
    some true r = refl
    some false r = refl
other_by c whole cond kind k more false false same there = rw (or_holds c whole cond, there) (ap (λ s. s || is_other_kind more kind) (sym (no_more (satisfies c whole))))

other_holds : (c : List ℕ) (kind : Kind) (whole : Expr) (ks : List KindWhere) → satisfies c (other_from kind whole ks) ≡ (satisfies c whole || is_other_kind (kinds_there c ks) kind)
other_holds c kind whole [] = no_more (satisfies c whole)
other_holds c kind whole (k ∷ ks) =
    other_holds c kind (if same_kind kind k.kind then whole else or_of whole k.cond) ks
    ∙ other_by c whole k.cond kind k.kind (kinds_there c ks) (same_kind kind k.kind) (satisfies c k.cond) refl refl

differ_by : (s b : Bool) (k : Kind) (left right : List Kind) → ((s || (b && is_other_kind right k)) || kinds_differ left right) ≡ (s || kinds_differ (if b then k ∷ left else left) right)
differ_by true true k left right = refl
differ_by true false k left right = refl
differ_by false true k left right = refl
differ_by false false k left right = refl

differ_holds : (c : List ℕ) (right : List KindWhere) (whole : Expr) (left : List KindWhere) → satisfies c (differ_from right whole left) ≡ (satisfies c whole || kinds_differ (kinds_there c left) (kinds_there c right))
differ_holds c right whole [] = no_more (satisfies c whole)
differ_holds c right whole (one ∷ left) =
    differ_holds c right (or_of whole (and_of one.cond (other_from one.kind e.False right))) left
    ∙ ap (λ s. s || kinds_differ (kinds_there c left) (kinds_there c right)) (or_holds c whole (and_of one.cond (other_from one.kind e.False right)) ∙ ap (λ b. satisfies c whole || b) (and_holds c one.cond (other_from one.kind e.False right) ∙ ap (λ b. satisfies c one.cond && b) (other_holds c one.kind e.False right ∙ ap (λ b. b || is_other_kind (kinds_there c right) one.kind) (holds_False c))))
    ∙ differ_by (satisfies c whole) (satisfies c one.cond) one.kind (kinds_there c left) (kinds_there c right)

under_path : (p d b : Bool) (one : Case) → b ≡ (p && d) → (if b then one ∷ [] else []) ≡ (if p then (if d then one ∷ [] else []) else [])
under_path true d b one is = ap (λ x. if x then one ∷ [] else []) is
under_path false d b one is = ap (λ x. if x then one ∷ [] else []) is

pub differ_added : (c : List ℕ) (kinds : List Kind) (ks : List TypedColumn) (left right : Operand) (path path' other cond : Expr) (lk rk : List KindWhere) (name : ColName) (old new : List Case) → lk ≡ operand_kinds_where kinds ks left → rk ≡ operand_kinds_where kinds ks right → other ≡ differ_from rk e.False lk → path' ≡ path → satisfies c cond ≡ (satisfies c path' && satisfies c other) → name ≡ operand_name left → new ≡ old ++ (if satisfies c cond then case ill.KindsDiffer name ∷ [] else []) → new ≡ old ++ (if satisfies c path then (if kinds_differ (operand_kinds kinds (columns_at c ks) left) (operand_kinds kinds (columns_at c ks) right) then case ill.KindsDiffer (operand_name left) ∷ [] else []) else [])
differ_added c kinds ks left right path path' other cond lk rk name old new lk_is rk_is other_is same is name_is added =
    let differs : satisfies c other ≡ kinds_differ (operand_kinds kinds (columns_at c ks) left) (operand_kinds kinds (columns_at c ks) right) =
    ap (satisfies c) other_is ∙ differ_holds c rk e.False lk ∙ ap (λ b. b || kinds_differ (kinds_there c lk) (kinds_there c rk)) (holds_False c)
    ∙ ap (λ xs. kinds_differ (kinds_there c xs) (kinds_there c rk)) lk_is ∙ ap (λ xs. kinds_differ (kinds_there c (operand_kinds_where kinds ks left)) (kinds_there c xs)) rk_is
    ∙ ap (λ xs. kinds_differ xs (kinds_there c (operand_kinds_where kinds ks right))) (operand_kinds_there c kinds ks left)
    ∙ ap (kinds_differ (operand_kinds kinds (columns_at c ks) left)) (operand_kinds_there c kinds ks right) in
    added ∙ ap (λ n. old ++ (if satisfies c cond then case ill.KindsDiffer n ∷ [] else [])) name_is
    ∙ ap (λ (xs : List Case). old ++ xs) (under_path (satisfies c path) (kinds_differ (operand_kinds kinds (columns_at c ks) left) (operand_kinds kinds (columns_at c ks) right)) (satisfies c cond) (case ill.KindsDiffer (operand_name left)) (is ∙ ap (λ (x : Expr). satisfies c x && satisfies c other) same ∙ ap (λ b. satisfies c path && b) differs))
