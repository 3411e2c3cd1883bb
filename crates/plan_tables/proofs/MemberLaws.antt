-- Columns among others: each once, of distinct names, and in the order of others.
use Rattle.std.proofs.Common.{◌≡◌, ◌∙◌, Bool, true, false, not, ◌&&◌, List, [], ◌∷◌, ◌++◌, refl, sym, ap, ap₂, subst, true≢false, ◌⊎◌, inl, inr}
use Rattle.values.specs.declared.column_name.ColName.{ColName}
use Rattle.values.specs.declared.value.Kind.{Kind}
use Rattle.plain_relation.specs.Relations.{Column, has_name, same_name}
use Rattle.relational_algebra.specs.Columns.{among, in_order_of, once, same_column}
use Rattle.row_conditions.proofs.BoolLaws.{and_first, and_second, not_true, or_cases, or_end, or_start, true_or_false}
use Rattle.row_conditions.proofs.NameLaws.{name_is, name_same, kind_is, kind_same}
use Rattle.plan_tables.specs.Tables.{once_each}
use Rattle.vtable.specs.Answers.{names_are_distinct}

made_column : ColName → Kind → Column
made_column name kind = record { name = name; kind = kind }

made_is : (column : Column) → made_column column.name column.kind ≡ column
unfolding made_column
made_is column = refl

pub column_is : (one other : Column) → same_column one other ≡ true → one ≡ other
column_is one other h =
    let name = name_is one.name other.name (and_first _ _ h) in
    let kind = kind_is one.kind other.kind (and_second (same_name one.name other.name) _ h) in
    sym (made_is one) ∙ ap₂ made_column name kind ∙ made_is other

pub both : (a b : Bool) → a ≡ true → b ≡ true → (a && b) ≡ true
both true b h k = k
both false b h k = absurd (true≢false (sym h))

pub column_same : (column : Column) → same_column column column ≡ true
column_same column = both _ _ (name_same column.name) (kind_same column.kind)

pub same_back : (one other : Column) → same_column one other ≡ true → same_column other one ≡ true
same_back one other h = subst (λ k. same_column other k ≡ true) (sym (column_is one other h)) (column_same other)

-- a column that is among others has its name among theirs
pub among_named : (key : Column) (xs : List Column) → among key xs ≡ true → has_name key.name xs ≡ true
among_named key [] h = absurd (true≢false (sym h))
among_named key (x ∷ xs) h =
    elim (or_cases (same_column key x) (among key xs) h) [
      | inl here ↦ or_start (same_name x.name key.name) (has_name key.name xs) (subst (λ (k : Column). same_name x.name k.name ≡ true) (sym (column_is key x here)) (name_same x.name))
      | inr there ↦ or_end (same_name x.name key.name) (has_name key.name xs) (among_named key xs there)
    ]

pub among_first : (key : Column) (xs : List Column) → among key (key ∷ xs) ≡ true
among_first key xs = or_start _ _ (column_same key)

pub among_append : (key : Column) (xs ys : List Column) → among key (xs ++ ys) ≡ true → (among key xs ≡ true) ⊎ (among key ys ≡ true)
among_append key [] ys h = inr h
among_append key (x ∷ xs) ys h =
    elim (or_cases (same_column key x) (among key (xs ++ ys)) h) [
      | inl here ↦ inl (or_start _ _ here)
      | inr there ↦ elim (among_append key xs ys there) [ inl l ↦ inl (or_end (same_column key x) _ l) | inr r ↦ inr r ]
    ]

pub among_left : (key : Column) (xs ys : List Column) → among key xs ≡ true → among key (xs ++ ys) ≡ true
among_left key [] ys h = absurd (true≢false (sym h))
among_left key (x ∷ xs) ys h =
    elim (or_cases (same_column key x) (among key xs) h) [
      | inl here ↦ or_start _ _ here
      | inr there ↦ or_end (same_column key x) _ (among_left key xs ys there)
    ]

pub among_right : (key : Column) (xs ys : List Column) → among key ys ≡ true → among key (xs ++ ys) ≡ true
among_right key [] ys h = h
among_right key (x ∷ xs) ys h = or_end (same_column key x) _ (among_right key xs ys h)

filtered_step : (key x : Column) (X xs : List Column) (kept : Bool) → among x X ≡ kept → (among key (in_order_of xs X) ≡ true → among key X ≡ true) → among key (in_order_of (x ∷ xs) X) ≡ true → among key X ≡ true
filtered_step key x X xs false is rest h = rest (rw is at h)
filtered_step key x X xs true is rest h =
    elim (or_cases (same_column key x) (among key (in_order_of xs X)) (rw is at h)) [
      | inl here ↦ subst (λ k. among k X ≡ true) (sym (column_is key x here)) is
      | inr there ↦ rest there
    ]

-- what stands in the order of others is among the columns
pub among_ordered : (key : Column) (order X : List Column) → among key (in_order_of order X) ≡ true → among key X ≡ true
among_ordered key [] X h = absurd (true≢false (sym h))
among_ordered key (x ∷ xs) X h = filtered_step key x X xs (among x X) refl (among_ordered key xs X) h

kept_step : (key x : Column) (X xs : List Column) (kept : Bool) → among x X ≡ kept → among key X ≡ true → (among key xs ≡ true → among key (in_order_of xs X) ≡ true) → among key (x ∷ xs) ≡ true → among key (in_order_of (x ∷ xs) X) ≡ true
kept_step key x X xs true is in_X rest h =
    elim (or_cases (same_column key x) (among key xs) h) [
      | inl here ↦ rw is (or_start _ _ here)
      | inr there ↦ rw is (or_end (same_column key x) _ (rest there))
    ]
kept_step key x X xs false is in_X rest h =
    elim (or_cases (same_column key x) (among key xs) h) [
      | inl here ↦ absurd (true≢false (sym in_X ∙ subst (λ k. among k X ≡ false) (sym (column_is key x here)) is))
      | inr there ↦ rw is (rest there)
    ]

-- and what is among both stands there
pub ordered_among : (key : Column) (order X : List Column) → among key order ≡ true → among key X ≡ true → among key (in_order_of order X) ≡ true
ordered_among key [] X h in_X = absurd (true≢false (sym h))
ordered_among key (x ∷ xs) X h in_X = kept_step key x X xs (among x X) refl in_X (λ k. ordered_among key xs X k in_X) h

in_order_step : (key y : Column) (ys X : List Column) (b : Bool) → among y X ≡ b → (among key (in_order_of ys X) ≡ true → among key ys ≡ true) → among key (in_order_of (y ∷ ys) X) ≡ true → among key (y ∷ ys) ≡ true
in_order_step key y ys X false is rest h = or_end (same_column key y) _ (rest (rw is at h))
in_order_step key y ys X true is rest h =
    elim (or_cases (same_column key y) (among key (in_order_of ys X)) (rw is at h)) [
      | inl here ↦ or_start _ _ here
      | inr there ↦ or_end (same_column key y) _ (rest there)
    ]

-- what stands in the order of others is one of these
pub among_kept : (key : Column) (order X : List Column) → among key (in_order_of order X) ≡ true → among key order ≡ true
among_kept key [] X h = absurd (true≢false (sym h))
among_kept key (y ∷ ys) X h = in_order_step key y ys X (among y X) refl (among_kept key ys X) h

-- ---- a name stands for one column

pub record IsOneEach (X : List Column) : Type 0 where
  pub one : (a b : Column) → among a X ≡ true → among b X ≡ true → same_name a.name b.name ≡ true → a ≡ b

same_name_of : (a b x : Column) → a ≡ x → same_name a.name b.name ≡ true → same_name b.name x.name ≡ true
same_name_of a b x is h =
    let named : a.name ≡ b.name = name_is a.name b.name h in
    subst (λ n. same_name n x.name ≡ true) (ap (λ (k : Column). k.name) (sym is) ∙ named) (name_same x.name)

clash : (x : Column) (xs : List Column) (b : Column) → names_are_distinct (x ∷ xs) ≡ true → among b xs ≡ true → same_name b.name x.name ≡ true → ⊥
clash x xs b distinct there same =
    let lacks : has_name x.name xs ≡ false = not_true _ (and_first (not (has_name x.name xs)) _ distinct) in
    let has : has_name b.name xs ≡ true = among_named b xs there in
    true≢false (sym has ∙ ap (λ n. has_name n xs) (name_is b.name x.name same) ∙ lacks)

pub one_each : (X : List Column) → names_are_distinct X ≡ true → IsOneEach X
one_each [] distinct = record { one = λ a b in_a in_b same. absurd (true≢false (sym in_a)) }
one_each (x ∷ xs) distinct = record {
  one = λ a b in_a in_b same.
      elim (or_cases (same_column a x) (among a xs) in_a) [
        | inl a_here ↦ elim (or_cases (same_column b x) (among b xs) in_b) [
          | inl b_here ↦ column_is a x a_here ∙ sym (column_is b x b_here)
          | inr b_there ↦ absurd (clash x xs b distinct b_there (same_name_of a b x (column_is a x a_here) same))
        ]
        | inr a_there ↦ elim (or_cases (same_column b x) (among b xs) in_b) [
          | inl b_here ↦ absurd (clash x xs a distinct a_there (subst (λ (k : Column). same_name a.name k.name ≡ true) (column_is b x b_here) same))
          | inr b_there ↦ (one_each xs (and_second (not (has_name x.name xs)) _ distinct)).one a b a_there b_there same
        ]
      ];
}

-- a name in a list is that of one of its columns
pub record Named (name : ColName) (xs : List Column) : Type 0 where
  pub column : Column
  pub there : among column xs ≡ true
  pub named : same_name column.name name ≡ true

pub named_one : (name : ColName) (xs : List Column) → has_name name xs ≡ true → Named name xs
named_one name [] h = absurd (true≢false (sym h))
named_one name (x ∷ xs) h =
    elim (or_cases (same_name x.name name) (has_name name xs) h) [
      | inl here ↦ record { column = x; there = among_first x xs; named = here }
      | inr later ↦ let it = named_one name xs later in record { column = it.column; there = or_end (same_column it.column x) _ it.there; named = it.named }
    ]

once_tail : (x : Column) (xs : List Column) (b : Bool) → among x xs ≡ b → once_each (x ∷ xs) ≡ true → (among x xs ≡ false) × (once_each xs ≡ true)
once_tail x xs true is h = absurd (true≢false (sym (rw is at h)))
once_tail x xs false is h = (is, rw is at h)

pub once_parts : (x : Column) (xs : List Column) → once_each (x ∷ xs) ≡ true → (among x xs ≡ false) × (once_each xs ≡ true)
once_parts x xs h = once_tail x xs (among x xs) refl h

distinct_cons : (x : Column) (ys : List Column) → has_name x.name ys ≡ false → names_are_distinct ys ≡ true → names_are_distinct (x ∷ ys) ≡ true
distinct_cons x ys lacks rest = rw lacks rest

ordered_step : (x : Column) (xs X : List Column) (kept : Bool) → among x X ≡ kept → IsOneEach X → among x xs ≡ false → names_are_distinct (in_order_of xs X) ≡ true → names_are_distinct (in_order_of (x ∷ xs) X) ≡ true
ordered_step x xs X false is each lacks rest = rw is rest
ordered_step x xs X true is each lacks rest =
    elim (true_or_false (has_name x.name (in_order_of xs X))) [
      | inl has ↦
          let it = named_one x.name (in_order_of xs X) has in
          let same : it.column ≡ x = each.one it.column x (among_ordered it.column xs X it.there) is it.named in
          let there : among x xs ≡ true = subst (λ k. among k xs ≡ true) same (among_kept it.column xs X it.there) in
          absurd (true≢false (sym there ∙ lacks))
      | inr none ↦ rw is (distinct_cons x (in_order_of xs X) none rest)
    ]

-- columns in the order of others, each of which stands once, have distinct names where each name is that of one column
pub ordered_distinct : (order X : List Column) → once_each order ≡ true → IsOneEach X → names_are_distinct (in_order_of order X) ≡ true
ordered_distinct [] X once each = refl
ordered_distinct (x ∷ xs) X once each =
    let parts = once_parts x xs once in
    ordered_step x xs X (among x X) refl each parts.0 (ordered_distinct xs X parts.1 each)
