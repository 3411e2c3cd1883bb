-- A write takes a view of a table to the view after it.
use Rattle.std.proofs.Common.{◌≡◌, ℕ, Bool, true, false, cond, not, if◌then◌else◌, List, [], ◌∷◌, ◌++◌, map, filter, refl, sym, ◌∙◌, ap, subst, rules, ◌⊎◌, inl, inr}
use Rattle.condition_sat.specs.Admitted.{IsAdmitted}
use Rattle.feature_expr.specs.declared.expr.Expr.{Expr}
use Rattle.plain_relation.specs.Relations.{Cell, Relation, relation_with}
use Rattle.plain_relation.specs.Relations as plain
use Rattle.write_meaning.proofs.RowWriteLaws.{plain_write}
use Rattle.write_meaning.proofs.SetLaws.{Same, same_of, same_on, same_both}
use Rattle.relational_algebra.specs.Conditions.{holds}
use Rattle.write_meaning.specs.Members.{Has, SameRows}
use Rattle.write_meaning.specs.PlainWrites.{new_row, changed as changed_row, after_acting, after_write}
use Rattle.write_meaning.specs.RowWrites.{IsRowWrite}
use Rattle.write_meaning.specs.StoredTables.{stored_table}
use Rattle.query_meaning.specs.WriteTyping.{assignments_of, assignment_of, acts}
use Rattle.vra_syntax.specs.declared.write.Write.{Write}
use Rattle.vra_syntax.specs.declared.write.Write.TheVariants as write
use Rattle.vschema.specs.declared.catalog.Table.{Table}
use Rattle.vtable.specs.Answers.{answer_at, IsAnswerAt}
use Rattle.vtable.specs.declared.table.VRow.{VRow}

-- Members under filter and map.

filter_by : {X : Type 0} (p : X → Bool) (y : X) (xs : List X) (b : Bool) (x : X) → p y ≡ b → (Has (filter p xs) x → Has xs x × (p x ≡ true)) → Has (cond b (y ∷ filter p xs) (filter p xs)) x → Has (y ∷ xs) x × (p x ≡ true)
filter_by p y xs true x is on (inl h) = (inl h, subst (λ z. p z ≡ true) h is)
filter_by p y xs true x is on (inr h) = let k = on h in (inr k.0, k.1)
filter_by p y xs false x is on h = let k = on h in (inr k.0, k.1)

in_filter : {X : Type 0} (p : X → Bool) (xs : List X) (x : X) → Has (filter p xs) x → Has xs x × (p x ≡ true)
in_filter p [] x h = absurd h
in_filter p (y ∷ xs) x h = filter_by p y xs (p y) x refl (in_filter p xs x) h

keep_here : {X : Type 0} (y : X) (xs : List X) (b : Bool) (x : X) → b ≡ true → (y ≡ x) ⊎ Has xs x → Has (cond b (y ∷ xs) xs) x
keep_here y xs true x is h = h
keep_here y xs false x is h = search rules

keep_later : {X : Type 0} (y : X) (xs : List X) (b : Bool) (x : X) → Has xs x → Has (cond b (y ∷ xs) xs) x
keep_later y xs true x h = inr h
keep_later y xs false x h = h

of_filter : {X : Type 0} (p : X → Bool) (xs : List X) (x : X) → Has xs x → p x ≡ true → Has (filter p xs) x
of_filter p [] x h is = absurd h
of_filter p (y ∷ xs) x (inl h) is = keep_here y (filter p xs) (p y) x (subst (λ z. p z ≡ true) (sym h) is) (inl h)
of_filter p (y ∷ xs) x (inr h) is = keep_later y (filter p xs) (p y) x (of_filter p xs x h is)

same_filter : {X : Type 0} (p : X → Bool) (xs ys : List X) → Same xs ys → Same (filter p xs) (filter p ys)
same_filter p xs ys same x =
    (λ h. let k = in_filter p xs x h in of_filter p ys x ((same x).0 k.0) k.1, λ h. let k = in_filter p ys x h in of_filter p xs x ((same x).1 k.0) k.1)

pub record IsImage {X Y : Type 0} (f : X → Y) (xs : List X) (y : Y) : Type 0 where
  pub x : X
  pub there : Has xs x
  pub is : f x ≡ y

in_map : {X Y : Type 0} (f : X → Y) (xs : List X) (y : Y) → Has (map f xs) y → IsImage f xs y
in_map f [] y h = absurd h
in_map f (x ∷ xs) y (inl h) = record { x = x; there = inl refl; is = h }
in_map f (x ∷ xs) y (inr h) = let k = in_map f xs y h in record { x = k.x; there = inr k.there; is = k.is }

of_map : {X Y : Type 0} (f : X → Y) (xs : List X) (x : X) → Has xs x → Has (map f xs) (f x)
of_map f [] x h = absurd h
of_map f (y ∷ xs) x (inl h) = inl (ap f h)
of_map f (y ∷ xs) x (inr h) = inr (of_map f xs x h)

moved : {X Y : Type 0} (f : X → Y) (xs ys : List X) (y : Y) → ((x : X) → Has xs x → Has ys x) → Has (map f xs) y → Has (map f ys) y
moved f xs ys y on h = let k = in_map f xs y h in subst (Has (map f ys)) k.is (of_map f ys k.x (on k.x k.there))

same_map : {X Y : Type 0} (f : X → Y) (xs ys : List X) → Same xs ys → Same (map f xs) (map f ys)
same_map f xs ys same y = (moved f xs ys y (λ x. (same x).0), moved f ys xs y (λ x. (same x).1))

-- A plain write keeps two relations the same.

with_columns : (columns : List plain.Column) (xs ys : List (List Cell)) → Same xs ys → SameRows (relation_with columns xs) (relation_with columns ys)
with_columns [] xs ys same = record { columns = refl; rows = λ row. (λ h. h, λ h. h) }
with_columns (column ∷ columns) xs ys same = record { columns = refl; rows = same }

acting_same : (c : List ℕ) (w : Write) (one other : Relation) → SameRows one other → SameRows (after_acting c w one) (after_acting c w other)
acting_same c (write.Insert name names listed expr) one other same =
    subst (λ columns. SameRows (after_acting c (write.Insert name names listed expr) one) (relation_with columns (other.rows ++ map (λ values. new_row columns (assignments_of names values)) listed))) same.columns
    (with_columns one.columns (one.rows ++ map (λ values. new_row one.columns (assignments_of names values)) listed) (other.rows ++ map (λ values. new_row one.columns (assignments_of names values)) listed)
    (same_both one.rows other.rows (map (λ values. new_row one.columns (assignments_of names values)) listed) (map (λ values. new_row one.columns (assignments_of names values)) listed) same.rows
    (same_of (map (λ values. new_row one.columns (assignments_of names values)) listed) (map (λ values. new_row one.columns (assignments_of names values)) listed) refl)))
acting_same c (write.Delete name it expr) one other same =
    subst (λ columns. SameRows (after_acting c (write.Delete name it expr) one) (relation_with columns (filter (λ row. not (holds c it row)) other.rows))) same.columns
    (with_columns one.columns (filter (λ row. not (holds c it row)) one.rows) (filter (λ row. not (holds c it row)) other.rows) (same_filter (λ row. not (holds c it row)) one.rows other.rows same.rows))
acting_same c (write.Update name items it expr) one other same =
    subst (λ columns. SameRows (after_acting c (write.Update name items it expr) one) (relation_with columns (map (changed_row c it (map assignment_of items)) other.rows))) same.columns
    (with_columns one.columns (map (changed_row c it (map assignment_of items)) one.rows) (map (changed_row c it (map assignment_of items)) other.rows) (same_map (changed_row c it (map assignment_of items)) one.rows other.rows same.rows))

write_by : (c : List ℕ) (w : Write) (a : Bool) (one other : Relation) → SameRows one other → SameRows (if a then after_acting c w one else one) (if a then after_acting c w other else other)
write_by c w true one other same = acting_same c w one other same
write_by c w false one other same = same

pub write_same : (c : List ℕ) (table : Table) (w : Write) (one other : Relation) → SameRows one other → SameRows (after_write c table w one) (after_write c table w other)
write_same c table w one other same = write_by c w (acts c table w) one other same

pub same_through : (one mid other : Relation) → SameRows one mid → SameRows mid other → SameRows one other
same_through one mid other h k = record { columns = h.columns ∙ k.columns; rows = same_on one.rows mid.rows other.rows h.rows k.rows }

-- The rows after a write are the table after it.
pub means_after : (model : Expr) (table : Table) (w : Write) (c : List ℕ) → IsAdmitted model c → (old new : List VRow) (before : Relation) → IsRowWrite model table w old new → IsAnswerAt c (stored_table table old)
    → SameRows (answer_at c (stored_table table old)) before → SameRows (answer_at c (stored_table table new)) (after_write c table w before)
means_after model table w c admitted old new before it answer same =
    same_through (answer_at c (stored_table table new)) (after_write c table w (answer_at c (stored_table table old))) (after_write c table w before)
    (plain_write model table w c admitted old new it answer) (write_same c table w (answer_at c (stored_table table old)) before same)
