-- A table's columns under the conditions that typing found are the same columns in each admitted variant, and those of
-- them that some variant has are the typed ones.
use Rattle.std.proofs.Common.{◌≡◌, ◌∙◌, ℕ, Bool, true, false, not, ◌&&◌, ◌||◌, List, [], ◌∷◌, map, Some, None, if◌then◌else◌, ◌++◌, append_assoc, refl, sym, ap, ap₂, subst, true≢false}
use Rattle.std.specs.List.{AllByRecursion, list_any}
use Rattle.condition_sat.proofs.PossibleLaws.{none_admitted, some_admitted_of}
use Rattle.condition_sat.proofs.SettledLaws.{always_here}
use Rattle.condition_sat.specs.Admitted.{IsAdmitted}
use Rattle.condition_sat.specs.Possible.{always_holds, can_hold}
use Rattle.condition_sat.specs.Possible as possible
use Rattle.feature_expr.specs.Satisfaction.{satisfies}
use Rattle.feature_expr.specs.declared.expr.Expr.{Expr}
use Rattle.values.specs.declared.column_name.ColName.{ColName}
use Rattle.values.specs.declared.value.Kind.{Kind}
use Rattle.plain_relation.specs.Relations.{Column}
use Rattle.plan_tables.proofs.MemberLaws.{among_kept, column_is, column_same}
use Rattle.plan_tables.specs.Tables.{heading, columns_at, headings}
use Rattle.query_meaning.proofs.ColumnSets.{distinct, distinct_parts, order_cons}
use Rattle.query_meaning.specs.Typing.{IsSettled}
use Rattle.query_meaning.specs.Typing as typing
use Rattle.query_meaning.specs.declared.typed.TypedColumn.{TypedColumn}
use Rattle.relational_algebra.specs.Columns.{among, in_order_of, same_column}
use Rattle.row_conditions.proofs.BoolLaws.{neither}
use Rattle.vtable.proofs.CutLaws.{one_goes, one_stays}
use Rattle.vtable.specs.Answers.{column_at}
use Rattle.vtable.specs.TableForm.{columns_are_distinct, columns_staying, settled_column}
use Rattle.vtable.specs.TableForm as form
use Rattle.vtable.specs.declared.table.VColumn.{VColumn}
use Rattle.query_answers.specs.Held.{answer_column}
use Rattle.query_answers.specs.Retyped.{retyped, under_typed}

-- ---- which columns are there

lacks_step : (c : List ℕ) (k : Column) (x : VColumn) (xs : List VColumn) (there : Bool) → satisfies c x.cond ≡ there → same_column k (heading x) ≡ false → among k (columns_at c xs) ≡ false → among k (columns_at c (x ∷ xs)) ≡ false
lacks_step c k x xs true is other rest = rw (is, other) rest
lacks_step c k x xs false is other rest = rw is rest

lacks : (c : List ℕ) (k : Column) (xs : List VColumn) → among k (headings xs) ≡ false → among k (columns_at c xs) ≡ false
lacks c k [] h = refl
lacks c k (x ∷ xs) h =
    let parts = neither (same_column k (heading x)) (among k (headings xs)) h in
    lacks_step c k x xs (satisfies c x.cond) refl parts.0 (lacks c k xs parts.1)

first_step : (c : List ℕ) (x : VColumn) (xs : List VColumn) (there : Bool) → satisfies c x.cond ≡ there → among (heading x) (headings xs) ≡ false → among (heading x) (columns_at c (x ∷ xs)) ≡ there
first_step c x xs true is none = rw (is, column_same (heading x)) refl
first_step c x xs false is none = rw is (lacks c (heading x) xs none)

-- a column that stands once is there where its condition holds
first_there : (c : List ℕ) (x : VColumn) (xs : List VColumn) → among (heading x) (headings xs) ≡ false → among (heading x) (columns_at c (x ∷ xs)) ≡ satisfies c x.cond
first_there c x xs none = first_step c x xs (satisfies c x.cond) refl none

rest_step : (c : List ℕ) (k : Column) (x : VColumn) (xs : List VColumn) (there : Bool) → satisfies c x.cond ≡ there → same_column k (heading x) ≡ false → among k (columns_at c (x ∷ xs)) ≡ among k (columns_at c xs)
rest_step c k x xs true is other = rw (is, other) refl
rest_step c k x xs false is other = rw is refl

gone : (c : List ℕ) (x : VColumn) (xs : List VColumn) → satisfies c x.cond ≡ false → columns_at c (x ∷ xs) ≡ columns_at c xs
gone c x xs is = rw is refl

typed_lacks_step : (c : List ℕ) (k : Column) (t : TypedColumn) (ts : List TypedColumn) (there : Bool) → satisfies c t.cond ≡ there → same_column k (typing.heading t) ≡ false → among k (typing.columns_at c ts) ≡ false → among k (typing.columns_at c (t ∷ ts)) ≡ false
typed_lacks_step c k t ts true is other rest = rw (is, other) rest
typed_lacks_step c k t ts false is other rest = rw is rest

typed_lacks : (c : List ℕ) (k : Column) (ts : List TypedColumn) → among k (typing.headings ts) ≡ false → among k (typing.columns_at c ts) ≡ false
typed_lacks c k [] h = refl
typed_lacks c k (t ∷ ts) h =
    let parts = neither (same_column k (typing.heading t)) (among k (typing.headings ts)) h in
    typed_lacks_step c k t ts (satisfies c t.cond) refl parts.0 (typed_lacks c k ts parts.1)

typed_first_step : (c : List ℕ) (t : TypedColumn) (ts : List TypedColumn) (there : Bool) → satisfies c t.cond ≡ there → among (typing.heading t) (typing.headings ts) ≡ false → among (typing.heading t) (typing.columns_at c (t ∷ ts)) ≡ there
typed_first_step c t ts true is none = rw (is, column_same (typing.heading t)) refl
typed_first_step c t ts false is none = rw is (typed_lacks c (typing.heading t) ts none)

typed_there : (c : List ℕ) (t : TypedColumn) (ts : List TypedColumn) → among (typing.heading t) (typing.headings ts) ≡ false → among (typing.heading t) (typing.columns_at c (t ∷ ts)) ≡ satisfies c t.cond
typed_there c t ts none = typed_first_step c t ts (satisfies c t.cond) refl none

typed_rest_step : (c : List ℕ) (k : Column) (t : TypedColumn) (ts : List TypedColumn) (there : Bool) → satisfies c t.cond ≡ there → same_column k (typing.heading t) ≡ false → among k (typing.columns_at c (t ∷ ts)) ≡ among k (typing.columns_at c ts)
typed_rest_step c k t ts true is other = rw (is, other) refl
typed_rest_step c k t ts false is other = rw is refl

-- ---- the columns retyped

none_typed : (xs : List VColumn) → retyped xs [] ≡ xs
none_typed [] = refl
none_typed (x ∷ xs) = refl

-- no typed column is left
pub put_last : (column : VColumn) (typed : List TypedColumn) (out new : List VColumn) → typed ≡ [] → new ≡ out ++ column ∷ [] → (behind : List VColumn) → new ++ retyped behind typed ≡ out ++ retyped (column ∷ behind) typed
put_last column typed out new none put behind = ap₂ (λ xs ts. xs ++ retyped behind ts) put none ∙ ap (λ xs. (out ++ column ∷ []) ++ xs) (none_typed behind) ∙ append_assoc out (column ∷ []) behind ∙ sym (ap (λ ts. out ++ retyped (column ∷ behind) ts) none)

other_next : (x : VColumn) (xs : List VColumn) (ts : List TypedColumn) → among (heading x) (typing.headings ts) ≡ false → retyped (x ∷ xs) ts ≡ x ∷ retyped xs ts
other_next x xs [] none = ap (λ ys. x ∷ ys) (sym (none_typed xs))
other_next x xs (t ∷ ts) none = let parts = neither (same_column (heading x) (typing.heading t)) (among (heading x) (typing.headings ts)) none in rw (parts.0) refl

made : ColName → Kind → Expr → VColumn
made name kind cond = record { name = name; kind = kind; cond = cond }

under_is : (x : VColumn) (t : TypedColumn) → heading x ≡ typing.heading t → under_typed x t ≡ answer_column t
unfolding made
under_is x t is = ap₂ (λ name kind. made name kind t.cond) (ap (λ (k : Column). k.name) is) (ap (λ (k : Column). k.kind) is)

same_next : (x : VColumn) (xs : List VColumn) (t : TypedColumn) (ts : List TypedColumn) → same_column (heading x) (typing.heading t) ≡ true → retyped (x ∷ xs) (t ∷ ts) ≡ answer_column t ∷ retyped xs ts
same_next x xs t ts same = rw same (ap (λ y. y ∷ retyped xs ts) (under_is x t (column_is (heading x) (typing.heading t) same)))

heading_step : (x : VColumn) (xs : List VColumn) (t : TypedColumn) (ts : List TypedColumn) (same : Bool) → same_column (heading x) (typing.heading t) ≡ same → headings (retyped xs ts) ≡ headings xs → headings (retyped xs (t ∷ ts)) ≡ headings xs → headings (retyped (x ∷ xs) (t ∷ ts)) ≡ headings (x ∷ xs)
heading_step x xs t ts true is taken left = rw is (ap (λ ks. heading x ∷ ks) taken)
heading_step x xs t ts false is taken left = rw is (ap (λ ks. heading x ∷ ks) left)

pub same_headings : (xs : List VColumn) (ts : List TypedColumn) → headings (retyped xs ts) ≡ headings xs
same_headings [] ts = refl
same_headings (x ∷ xs) [] = refl
same_headings (x ∷ xs) (t ∷ ts) = heading_step x xs t ts (same_column (heading x) (typing.heading t)) refl (same_headings xs ts) (same_headings xs (t ∷ ts))

any_heading : (x : VColumn) (xs : List VColumn) → list_any (form.same_column x) xs ≡ among (heading x) (headings xs)
any_heading x [] = refl
any_heading x (y ∷ ys) = ap (λ b. same_column (heading x) (heading y) || b) (any_heading x ys)

pub distinct_is : (xs : List VColumn) → columns_are_distinct xs ≡ distinct (headings xs)
distinct_is [] = refl
distinct_is (x ∷ xs) = ap₂ (λ a b. not a && b) (any_heading x xs) (distinct_is xs)

-- ---- in the admitted variants

always_typed : (model cond : Expr) (always : Bool) → always_holds model cond ≡ always → IsSettled model cond → possible.settled model cond ≡ cond
always_typed model cond true is settled = rw is (sym (settled.always (always_here model cond is)))
always_typed model cond false is settled = rw is refl

-- the same columns in each admitted variant
pub record Agree (model : Expr) (xs : List VColumn) (ts : List TypedColumn) : Type 0 where
  pub agree : (c : List ℕ) → IsAdmitted model c → (k : Column) → among k (columns_at c xs) ≡ among k (typing.columns_at c ts)

pub record Retypes (model : Expr) (xs : List VColumn) (ts : List TypedColumn) : Type 0 where
  pub places : (c : List ℕ) → IsAdmitted model c → map (column_at c) (retyped xs ts) ≡ map (column_at c) xs
  pub staying : columns_staying model (retyped xs ts) ≡ map answer_column ts

module _ (model : Expr) where
  never : (x : VColumn) (xs : List VColumn) (ts : List TypedColumn) → among (heading x) (typing.headings ts) ≡ false → among (heading x) (headings xs) ≡ false → Agree model (x ∷ xs) ts → (c : List ℕ) → IsAdmitted model c → satisfies c x.cond ≡ false
  never x xs ts none once a c admitted = sym (first_there c x xs once) ∙ a.agree c admitted (heading x) ∙ typed_lacks c (heading x) ts none

  left_agree : (x : VColumn) (xs : List VColumn) (ts : List TypedColumn) → ((c : List ℕ) → IsAdmitted model c → satisfies c x.cond ≡ false) → Agree model (x ∷ xs) ts → Agree model xs ts
  left_agree x xs ts never_there a = record { agree = λ c admitted k. sym (ap (among k) (gone c x xs (never_there c admitted))) ∙ a.agree c admitted k }

  left_out : (x : VColumn) (xs : List VColumn) (ts : List TypedColumn) → among (heading x) (typing.headings ts) ≡ false → ((c : List ℕ) → IsAdmitted model c → satisfies c x.cond ≡ false) → Retypes model xs ts → Retypes model (x ∷ xs) ts
  left_out x xs ts none never_there rest =
      let next = other_next x xs ts none in
      record {
        places = λ c admitted. ap (map (column_at c)) next ∙ ap (λ ps. column_at c x ∷ ps) (rest.places c admitted);
        staying = ap (columns_staying model) next ∙ one_goes model x (retyped xs ts) (none_admitted model (λ c. satisfies c x.cond) never_there) ∙ rest.staying;
      }

  apart : (c : List ℕ) (k : Column) (x : VColumn) (xs : List VColumn) (t : TypedColumn) (ts : List TypedColumn) (same : Bool) → same_column k (heading x) ≡ same → heading x ≡ typing.heading t → among (heading x) (headings xs) ≡ false → among (typing.heading t) (typing.headings ts) ≡ false → among k (columns_at c (x ∷ xs)) ≡ among k (typing.columns_at c (t ∷ ts)) → among k (columns_at c xs) ≡ among k (typing.columns_at c ts)
  apart c k x xs t ts true is one once typed_once a =
      let here : k ≡ heading x = column_is k (heading x) is in
      subst (λ j. among j (columns_at c xs) ≡ false) (sym here) (lacks c (heading x) xs once)
      ∙ sym (subst (λ j. among j (typing.columns_at c ts) ≡ false) (sym (here ∙ one)) (typed_lacks c (typing.heading t) ts typed_once))
  apart c k x xs t ts false is one once typed_once a =
      sym (rest_step c k x xs (satisfies c x.cond) refl is) ∙ a ∙ typed_rest_step c k t ts (satisfies c t.cond) refl (subst (λ j. same_column k j ≡ false) one is)

  taken_agree : (x : VColumn) (xs : List VColumn) (t : TypedColumn) (ts : List TypedColumn) → heading x ≡ typing.heading t → among (heading x) (headings xs) ≡ false → among (typing.heading t) (typing.headings ts) ≡ false → Agree model (x ∷ xs) (t ∷ ts) → Agree model xs ts
  taken_agree x xs t ts one once typed_once a = record { agree = λ c admitted k. apart c k x xs t ts (same_column k (heading x)) refl one once typed_once (a.agree c admitted k) }

  same_place : (c : List ℕ) (x : VColumn) (t : TypedColumn) → heading x ≡ typing.heading t → satisfies c t.cond ≡ satisfies c x.cond → column_at c (answer_column t) ≡ column_at c x
  same_place c x t one holds = ap₂ (λ (b : Bool) (k : Column). if b then Some k else None) holds (sym one)

  taken : (x : VColumn) (xs : List VColumn) (t : TypedColumn) (ts : List TypedColumn) → heading x ≡ typing.heading t → among (heading x) (headings xs) ≡ false → among (typing.heading t) (typing.headings ts) ≡ false → Agree model (x ∷ xs) (t ∷ ts) → IsSettled model t.cond → Retypes model xs ts → Retypes model (x ∷ xs) (t ∷ ts)
  taken x xs t ts one once typed_once a settled rest =
      let same : same_column (heading x) (typing.heading t) ≡ true = subst (λ k. same_column (heading x) k ≡ true) one (column_same (heading x)) in
      let next = same_next x xs t ts same in
      let there = settled.satisfiable in
      let can : can_hold model t.cond ≡ true = some_admitted_of model (λ c. satisfies c t.cond) there.config there.admitted there.has in
      let kept : settled_column model (answer_column t) ≡ answer_column t = ap (λ (cond : Expr). let k : VColumn = record { name = t.name; kind = t.kind; cond = cond } in k) (always_typed model t.cond (always_holds model t.cond) refl settled) in
      record {
        places = λ c admitted.
            let holds = sym (typed_there c t ts typed_once) ∙ sym (a.agree c admitted (typing.heading t)) ∙ ap (λ k. among k (columns_at c (x ∷ xs))) (sym one) ∙ first_there c x xs once in
            ap (map (column_at c)) next ∙ ap₂ (λ p ps. p ∷ ps) (same_place c x t one holds) (rest.places c admitted);
        staying = ap (columns_staying model) next ∙ one_stays model (answer_column t) (retyped xs ts) can ∙ ap₂ (λ k ks. k ∷ ks) kept rest.staying;
      }

  abbrev AreSettled : List TypedColumn → Type 0
  AreSettled ts = AllByRecursion (λ (column : TypedColumn). IsSettled model column.cond) ts

  abbrev Next : List VColumn → Type 0
  Next xs = (ts : List TypedColumn) → typing.headings ts ≡ in_order_of (headings xs) (typing.headings ts) → Agree model xs ts → AreSettled ts → Retypes model xs ts

  no_other : (k : Column) (order ks : List Column) (b : Bool) → among k ks ≡ b → among k order ≡ false → ks ≡ in_order_of order ks → among k ks ≡ false
  no_other k order ks false is none ordered = is
  no_other k order ks true is none ordered = absurd (true≢false (sym (among_kept k order ks (subst (λ js. among k js ≡ true) ordered is)) ∙ none))

  step : (x : VColumn) (xs : List VColumn) (ts : List TypedColumn) (has : Bool) → among (heading x) (typing.headings ts) ≡ has → among (heading x) (headings xs) ≡ false → typing.headings ts ≡ in_order_of (heading x ∷ headings xs) (typing.headings ts) → Agree model (x ∷ xs) ts → AreSettled ts → Next xs → Retypes model (x ∷ xs) ts
  step x xs ts false has once ordered a settled rest =
      let never_there = never x xs ts has once a in
      left_out x xs ts has never_there (rest ts (rw has at ordered) (left_agree x xs ts never_there a) settled)
  step x xs [] true has once ordered a settled rest = absurd (true≢false (sym has))
  step x xs (t ∷ ts) true has once ordered a settled rest =
      let parted : typing.heading t ∷ typing.headings ts ≡ heading x ∷ in_order_of (headings xs) (typing.heading t ∷ typing.headings ts) = rw has at ordered in
      let one : heading x ≡ typing.heading t = sym (cc parted) in
      let typed_new : among (typing.heading t) (headings xs) ≡ false = subst (λ k. among k (headings xs) ≡ false) one once in
      let behind : typing.headings ts ≡ in_order_of (headings xs) (typing.heading t ∷ typing.headings ts) = cc parted in
      let tail = behind ∙ sym (order_cons (typing.heading t) (headings xs) (typing.headings ts) typed_new) in
      let typed_once = no_other (typing.heading t) (headings xs) (typing.headings ts) (among (typing.heading t) (typing.headings ts)) refl typed_new tail in
      taken x xs t ts one once typed_once a settled.0 (rest ts tail (taken_agree x xs t ts one once typed_once a) settled.1)

  pub retypes : (xs : List VColumn) (ts : List TypedColumn) → distinct (headings xs) ≡ true → typing.headings ts ≡ in_order_of (headings xs) (typing.headings ts) → Agree model xs ts → AreSettled ts → Retypes model xs ts
  retypes [] [] once ordered a settled = record { places = λ c admitted. refl; staying = refl }
  retypes [] (t ∷ ts) once ordered a settled = absurd (cc ordered)
  retypes (x ∷ xs) ts once ordered a settled =
      let parts = distinct_parts (heading x) (headings xs) once in
      step x xs ts (among (heading x) (typing.headings ts)) refl parts.0 ordered a settled (λ us o b s. retypes xs us parts.1 o b s)
