-- Where each number has a value, binding leaves no parameter.
use Rattle.std.proofs.Common.{◌≡◌, ◌≢◌, ℕ, ◌-◌, ◌<◌, ◌≤◌, ◌==◌, max, length, true, false, if◌then◌else◌, List, [], ◌∷◌, Some, None, get_or, slice_get, ◌⊎◌, inl, inr, refl, sym, subst, ap, ◌∙◌, arith}
use Rattle.std.proofs.Math.Nat.{le-max_left, le-max_right}
use Rattle.std.proofs.lemmas.Bool.Decides.{eqb_tells}
use Rattle.std.proofs.lemmas.Option.{slice_get_cases}
use Rattle.values.specs.declared.value.Value.{Value}
use Rattle.vra_syntax.specs.declared.cond.Operand.{Operand}
use Rattle.vra_syntax.specs.declared.cond.Operand.TheVariants as operand
use Rattle.vra_syntax.specs.declared.cond.Cond.{Cond, roll-Cond, map-Cond}
use Rattle.vra_syntax.specs.declared.cond.Cond.TheOpen.{Cond-F}
use Rattle.vra_syntax.specs.declared.cond.Cond.TheFolds.{fold-roll-Cond, ind-Cond}
use Rattle.vra_syntax.specs.declared.cond.Cond.TheVariants as c
use Rattle.vra_syntax.specs.declared.query.Query.{Query, roll-Query, map-Query}
use Rattle.vra_syntax.specs.declared.query.Query.TheOpen.{Query-F}
use Rattle.vra_syntax.specs.declared.query.Query.TheFolds.{fold-roll-Query, ind-Query}
use Rattle.vra_syntax.specs.declared.query.Query.TheVariants as q
use Rattle.vra_syntax.specs.declared.write.SetItem.{SetItem}
use Rattle.vra_syntax.specs.declared.write.Write.{Write}
use Rattle.vra_syntax.specs.declared.write.Write.TheVariants as write
use Rattle.vra_syntax.specs.declared.statement.Statement.{Statement}
use Rattle.vra_syntax.specs.declared.statement.Statement.TheVariants as statement
use Rattle.vra_syntax.specs.Binding.{bound_param, bound_operand, bound_cond_step, bound_cond, bound_query_step, bound_query, bound_row, bound_rows, bound_set_items, bound_write, bound_statement}
use Rattle.vra_syntax.specs.Parameters.{param_in_operand, param_in_cond_step, param_in_cond, param_in_query_step, param_in_query, param_in_row, param_in_rows, param_in_set_items, param_in_write, greatest_param}

both : (n a b a' b' : ℕ) → (a ≤ n → a' ≡ 0) → (b ≤ n → b' ≡ 0) → max a b ≤ n → max a' b' ≡ 0
both n a b a' b' f g h = rw (f (omega (arith, h, le-max_left a b)), g (omega (arith, h, le-max_right a b))) refl

module _ (values : List Value) where
  -- what is said of one part
  abbrev Leaves : ℕ → ℕ → Type 0
  Leaves before after = before ≤ length values → after ≡ 0

  from_cases : (number place : ℕ) → (((x : Value) × (place < length values) × (slice_get values place ≡ Some x) × (get_or values place x ≡ x)) ⊎ ((length values ≤ place) × (slice_get values place ≡ None))) → place < length values → param_in_operand (bound_param number (slice_get values place)) ≡ 0
  from_cases number place (inl t) h = ap (λ v. param_in_operand (bound_param number v)) t.2
  from_cases number place (inr t) h = absurd (omega (arith, h, t.0))

  of_param : (number : ℕ) → (((number == 0) ≡ true) × (number ≡ 0)) ⊎ (((number == 0) ≡ false) × (number ≢ 0)) → Leaves number (param_in_operand (bound_operand values (operand.Param number)))
  of_param number (inl t) h = ap (λ z. param_in_operand (bound_param number (if z then None else slice_get values (number - 1)))) t.0 ∙ t.1
  of_param number (inr t) h = ap (λ z. param_in_operand (bound_param number (if z then None else slice_get values (number - 1)))) t.0 ∙ from_cases number (number - 1) (slice_get_cases values (number - 1)).1 (omega (arith, h, t.1))

  in_operand : (o : Operand) → Leaves (param_in_operand o) (param_in_operand (bound_operand values o))
  in_operand (operand.Column column) h = refl
  in_operand (operand.Literal value) h = refl
  in_operand (operand.Param number) h = of_param number (eqb_tells number 0) h

  abbrev InCond : Cond → Type 0
  InCond x = Leaves (param_in_cond x) (param_in_cond (bound_cond values x))

  cond_step : (y : Cond-F ((x : Cond) × InCond x)) → InCond (roll-Cond (map-Cond ((x : Cond) × InCond x) Cond (λ x. x.0) y))
  cond_step (Cond-F.Cmp left op right) h = ap param_in_cond (fold-roll-Cond Cond (bound_cond_step values) (Cond-F.Cmp left op right) ∙ sym (c.rolls-Cmp (bound_operand values left) op (bound_operand values right))) ∙ fold-roll-Cond ℕ param_in_cond_step (Cond-F.Cmp (bound_operand values left) op (bound_operand values right)) ∙ both (length values) (param_in_operand left) (param_in_operand right) (param_in_operand (bound_operand values left)) (param_in_operand (bound_operand values right)) (in_operand left) (in_operand right) (subst (λ z. z ≤ length values) (fold-roll-Cond ℕ param_in_cond_step (Cond-F.Cmp left op right)) h)
  cond_step (Cond-F.Not inner) h = ap param_in_cond (fold-roll-Cond Cond (bound_cond_step values) (Cond-F.Not inner.0) ∙ sym (c.rolls-Not (bound_cond values inner.0))) ∙ fold-roll-Cond ℕ param_in_cond_step (Cond-F.Not (bound_cond values inner.0)) ∙ inner.1 (subst (λ z. z ≤ length values) (fold-roll-Cond ℕ param_in_cond_step (Cond-F.Not inner.0)) h)
  cond_step (Cond-F.And left right) h = ap param_in_cond (fold-roll-Cond Cond (bound_cond_step values) (Cond-F.And left.0 right.0) ∙ sym (c.rolls-And (bound_cond values left.0) (bound_cond values right.0))) ∙ fold-roll-Cond ℕ param_in_cond_step (Cond-F.And (bound_cond values left.0) (bound_cond values right.0)) ∙ both (length values) (param_in_cond left.0) (param_in_cond right.0) (param_in_cond (bound_cond values left.0)) (param_in_cond (bound_cond values right.0)) left.1 right.1 (subst (λ z. z ≤ length values) (fold-roll-Cond ℕ param_in_cond_step (Cond-F.And left.0 right.0)) h)
  cond_step (Cond-F.Or left right) h = ap param_in_cond (fold-roll-Cond Cond (bound_cond_step values) (Cond-F.Or left.0 right.0) ∙ sym (c.rolls-Or (bound_cond values left.0) (bound_cond values right.0))) ∙ fold-roll-Cond ℕ param_in_cond_step (Cond-F.Or (bound_cond values left.0) (bound_cond values right.0)) ∙ both (length values) (param_in_cond left.0) (param_in_cond right.0) (param_in_cond (bound_cond values left.0)) (param_in_cond (bound_cond values right.0)) left.1 right.1 (subst (λ z. z ≤ length values) (fold-roll-Cond ℕ param_in_cond_step (Cond-F.Or left.0 right.0)) h)
  cond_step (Cond-F.Choice expr left right) h = ap param_in_cond (fold-roll-Cond Cond (bound_cond_step values) (Cond-F.Choice expr left.0 right.0) ∙ sym (c.rolls-Choice expr (bound_cond values left.0) (bound_cond values right.0))) ∙ fold-roll-Cond ℕ param_in_cond_step (Cond-F.Choice expr (bound_cond values left.0) (bound_cond values right.0)) ∙ both (length values) (param_in_cond left.0) (param_in_cond right.0) (param_in_cond (bound_cond values left.0)) (param_in_cond (bound_cond values right.0)) left.1 right.1 (subst (λ z. z ≤ length values) (fold-roll-Cond ℕ param_in_cond_step (Cond-F.Choice expr left.0 right.0)) h)
  cond_step Cond-F.True h = ap param_in_cond (fold-roll-Cond Cond (bound_cond_step values) Cond-F.True ∙ sym c.rolls-True) ∙ fold-roll-Cond ℕ param_in_cond_step Cond-F.True
  cond_step Cond-F.False h = ap param_in_cond (fold-roll-Cond Cond (bound_cond_step values) Cond-F.False ∙ sym c.rolls-False) ∙ fold-roll-Cond ℕ param_in_cond_step Cond-F.False

  in_cond : (x : Cond) → InCond x
  in_cond = ind-Cond InCond (λ x y is. subst (λ z. InCond (roll-Cond z)) is (cond_step y))

  abbrev InQuery : Query → Type 0
  InQuery x = Leaves (param_in_query x) (param_in_query (bound_query values x))

  query_step : (y : Query-F ((x : Query) × InQuery x)) → InQuery (roll-Query (map-Query ((x : Query) × InQuery x) Query (λ x. x.0) y))
  query_step (Query-F.Table name) h = ap param_in_query (fold-roll-Query Query (bound_query_step values) (Query-F.Table name) ∙ sym (q.rolls-Table name)) ∙ fold-roll-Query ℕ param_in_query_step (Query-F.Table name)
  query_step (Query-F.Select items source x) h = ap param_in_query (fold-roll-Query Query (bound_query_step values) (Query-F.Select items source.0 x) ∙ sym (q.rolls-Select items (bound_query values source.0) (bound_cond values x))) ∙ fold-roll-Query ℕ param_in_query_step (Query-F.Select items (bound_query values source.0) (bound_cond values x)) ∙ both (length values) (param_in_query source.0) (param_in_cond x) (param_in_query (bound_query values source.0)) (param_in_cond (bound_cond values x)) source.1 (in_cond x) (subst (λ z. z ≤ length values) (fold-roll-Query ℕ param_in_query_step (Query-F.Select items source.0 x)) h)
  query_step (Query-F.Join left right x) h = ap param_in_query (fold-roll-Query Query (bound_query_step values) (Query-F.Join left.0 right.0 x) ∙ sym (q.rolls-Join (bound_query values left.0) (bound_query values right.0) (bound_cond values x))) ∙ fold-roll-Query ℕ param_in_query_step (Query-F.Join (bound_query values left.0) (bound_query values right.0) (bound_cond values x)) ∙ both (length values) (max (param_in_query left.0) (param_in_query right.0)) (param_in_cond x) (max (param_in_query (bound_query values left.0)) (param_in_query (bound_query values right.0))) (param_in_cond (bound_cond values x)) (both (length values) (param_in_query left.0) (param_in_query right.0) (param_in_query (bound_query values left.0)) (param_in_query (bound_query values right.0)) left.1 right.1) (in_cond x) (subst (λ z. z ≤ length values) (fold-roll-Query ℕ param_in_query_step (Query-F.Join left.0 right.0 x)) h)
  query_step (Query-F.Union left right) h = ap param_in_query (fold-roll-Query Query (bound_query_step values) (Query-F.Union left.0 right.0) ∙ sym (q.rolls-Union (bound_query values left.0) (bound_query values right.0))) ∙ fold-roll-Query ℕ param_in_query_step (Query-F.Union (bound_query values left.0) (bound_query values right.0)) ∙ both (length values) (param_in_query left.0) (param_in_query right.0) (param_in_query (bound_query values left.0)) (param_in_query (bound_query values right.0)) left.1 right.1 (subst (λ z. z ≤ length values) (fold-roll-Query ℕ param_in_query_step (Query-F.Union left.0 right.0)) h)
  query_step (Query-F.Except left right) h = ap param_in_query (fold-roll-Query Query (bound_query_step values) (Query-F.Except left.0 right.0) ∙ sym (q.rolls-Except (bound_query values left.0) (bound_query values right.0))) ∙ fold-roll-Query ℕ param_in_query_step (Query-F.Except (bound_query values left.0) (bound_query values right.0)) ∙ both (length values) (param_in_query left.0) (param_in_query right.0) (param_in_query (bound_query values left.0)) (param_in_query (bound_query values right.0)) left.1 right.1 (subst (λ z. z ≤ length values) (fold-roll-Query ℕ param_in_query_step (Query-F.Except left.0 right.0)) h)
  query_step (Query-F.Choice expr left right) h = ap param_in_query (fold-roll-Query Query (bound_query_step values) (Query-F.Choice expr left.0 right.0) ∙ sym (q.rolls-Choice expr (bound_query values left.0) (bound_query values right.0))) ∙ fold-roll-Query ℕ param_in_query_step (Query-F.Choice expr (bound_query values left.0) (bound_query values right.0)) ∙ both (length values) (param_in_query left.0) (param_in_query right.0) (param_in_query (bound_query values left.0)) (param_in_query (bound_query values right.0)) left.1 right.1 (subst (λ z. z ≤ length values) (fold-roll-Query ℕ param_in_query_step (Query-F.Choice expr left.0 right.0)) h)
  query_step (Query-F.Alias source name) h = ap param_in_query (fold-roll-Query Query (bound_query_step values) (Query-F.Alias source.0 name) ∙ sym (q.rolls-Alias (bound_query values source.0) name)) ∙ fold-roll-Query ℕ param_in_query_step (Query-F.Alias (bound_query values source.0) name) ∙ source.1 (subst (λ z. z ≤ length values) (fold-roll-Query ℕ param_in_query_step (Query-F.Alias source.0 name)) h)
  query_step Query-F.Empty h = ap param_in_query (fold-roll-Query Query (bound_query_step values) Query-F.Empty ∙ sym q.rolls-Empty) ∙ fold-roll-Query ℕ param_in_query_step Query-F.Empty

  in_query : (x : Query) → InQuery x
  in_query = ind-Query InQuery (λ x y is. subst (λ z. InQuery (roll-Query z)) is (query_step y))

  in_row : (row : List Operand) → Leaves (param_in_row row) (param_in_row (bound_row values row))
  in_row [] h = refl
  in_row (o ∷ row) h = both (length values) (param_in_operand o) (param_in_row row) (param_in_operand (bound_operand values o)) (param_in_row (bound_row values row)) (in_operand o) (in_row row) h

  in_rows : (rows : List (List Operand)) → Leaves (param_in_rows rows) (param_in_rows (bound_rows values rows))
  in_rows [] h = refl
  in_rows (row ∷ rows) h = both (length values) (param_in_row row) (param_in_rows rows) (param_in_row (bound_row values row)) (param_in_rows (bound_rows values rows)) (in_row row) (in_rows rows) h

  in_set_items : (items : List SetItem) → Leaves (param_in_set_items items) (param_in_set_items (bound_set_items values items))
  in_set_items [] h = refl
  in_set_items (item ∷ items) h = both (length values) (param_in_operand item.value) (param_in_set_items items) (param_in_operand (bound_operand values item.value)) (param_in_set_items (bound_set_items values items)) (in_operand item.value) (in_set_items items) h

  in_write : (w : Write) → Leaves (param_in_write w) (param_in_write (bound_write values w))
  in_write (write.Insert table columns rows expr) h = in_rows rows h
  in_write (write.Delete table x expr) h = in_cond x h
  in_write (write.Update table items x expr) h = both (length values) (param_in_set_items items) (param_in_cond x) (param_in_set_items (bound_set_items values items)) (param_in_cond (bound_cond values x)) (in_set_items items) (in_cond x) h

  pub no_parameter_left : (s : Statement) → greatest_param s ≤ length values → greatest_param (bound_statement values s) ≡ 0
  no_parameter_left (statement.Query x) h = in_query x h
  no_parameter_left (statement.Write w) h = in_write w h
  no_parameter_left statement.Begin h = refl
  no_parameter_left statement.Commit h = refl
  no_parameter_left statement.Rollback h = refl
  no_parameter_left statement.Set h = refl
