-- Binding no values changes nothing.
use Rattle.std.proofs.Common.{◌≡◌, ℕ, ◌==◌, Bool, true, false, if◌then◌else◌, List, [], ◌∷◌, None, refl, sym, subst, ap, ◌∙◌}
use Rattle.vra_syntax.specs.declared.cond.Operand.{Operand}
use Rattle.vra_syntax.specs.declared.cond.Operand.TheVariants as operand
use Rattle.vra_syntax.specs.declared.cond.Cond.{Cond, roll-Cond, map-Cond}
use Rattle.vra_syntax.specs.declared.cond.Cond as cond
use Rattle.vra_syntax.specs.declared.cond.Cond.TheOpen.{Cond-F}
use Rattle.vra_syntax.specs.declared.cond.Cond.TheFolds.{fold-roll-Cond, ind-Cond}
use Rattle.vra_syntax.specs.declared.cond.Cond.TheVariants as c
use Rattle.vra_syntax.specs.declared.query.Query.{Query, roll-Query, map-Query}
use Rattle.vra_syntax.specs.declared.query.Query as query
use Rattle.vra_syntax.specs.declared.query.Query.TheOpen.{Query-F}
use Rattle.vra_syntax.specs.declared.query.Query.TheFolds.{fold-roll-Query, ind-Query}
use Rattle.vra_syntax.specs.declared.query.Query.TheVariants as q
use Rattle.vra_syntax.specs.declared.write.SetItem.{SetItem}
use Rattle.vra_syntax.specs.declared.write.Write.{Write}
use Rattle.vra_syntax.specs.declared.write.Write.TheVariants as write
use Rattle.vra_syntax.specs.declared.statement.Statement.{Statement}
use Rattle.vra_syntax.specs.declared.statement.Statement.TheVariants as statement
use Rattle.vra_syntax.specs.Binding.{bound_param, bound_operand, bound_cond_step, bound_cond, bound_query_step, bound_query, bound_row, bound_rows, bound_set_item, bound_set_items, bound_write, bound_statement}

no_value : (number : ℕ) (is_zero : Bool) → bound_param number (if is_zero then None else None) ≡ operand.Param number
no_value number true = refl
no_value number false = refl

pub unbound_operand : (o : Operand) → bound_operand [] o ≡ o
unbound_operand (operand.Column column) = refl
unbound_operand (operand.Literal value) = refl
unbound_operand (operand.Param number) = no_value number (number == 0)

unbound_step : (y : Cond-F ((x : Cond) × (bound_cond [] x ≡ x))) → bound_cond [] (roll-Cond (map-Cond ((x : Cond) × (bound_cond [] x ≡ x)) Cond (λ x. x.0) y)) ≡ roll-Cond (map-Cond ((x : Cond) × (bound_cond [] x ≡ x)) Cond (λ x. x.0) y)
unbound_step (Cond-F.Cmp left op right) = fold-roll-Cond Cond (bound_cond_step []) (Cond-F.Cmp left op right) ∙ ap (λ l. cond.Cmp l op (bound_operand [] right)) (unbound_operand left) ∙ ap (λ r. cond.Cmp left op r) (unbound_operand right) ∙ sym (c.rolls-Cmp left op right)
unbound_step (Cond-F.Not inner) = fold-roll-Cond Cond (bound_cond_step []) (Cond-F.Not inner.0) ∙ ap (λ i. cond.Not i) inner.1 ∙ sym (c.rolls-Not inner.0)
unbound_step (Cond-F.And left right) = fold-roll-Cond Cond (bound_cond_step []) (Cond-F.And left.0 right.0) ∙ ap (λ l. cond.And l (bound_cond [] right.0)) left.1 ∙ ap (λ r. cond.And left.0 r) right.1 ∙ sym (c.rolls-And left.0 right.0)
unbound_step (Cond-F.Or left right) = fold-roll-Cond Cond (bound_cond_step []) (Cond-F.Or left.0 right.0) ∙ ap (λ l. cond.Or l (bound_cond [] right.0)) left.1 ∙ ap (λ r. cond.Or left.0 r) right.1 ∙ sym (c.rolls-Or left.0 right.0)
unbound_step (Cond-F.Choice expr left right) = fold-roll-Cond Cond (bound_cond_step []) (Cond-F.Choice expr left.0 right.0) ∙ ap (λ l. cond.Choice expr l (bound_cond [] right.0)) left.1 ∙ ap (λ r. cond.Choice expr left.0 r) right.1 ∙ sym (c.rolls-Choice expr left.0 right.0)
unbound_step Cond-F.True = fold-roll-Cond Cond (bound_cond_step []) Cond-F.True ∙ sym c.rolls-True
unbound_step Cond-F.False = fold-roll-Cond Cond (bound_cond_step []) Cond-F.False ∙ sym c.rolls-False

pub unbound_cond : (x : Cond) → bound_cond [] x ≡ x
unbound_cond = ind-Cond (λ x. bound_cond [] x ≡ x) (λ x y is. subst (λ z. bound_cond [] (roll-Cond z) ≡ roll-Cond z) is (unbound_step y))

unbound_query_step : (y : Query-F ((x : Query) × (bound_query [] x ≡ x))) → bound_query [] (roll-Query (map-Query ((x : Query) × (bound_query [] x ≡ x)) Query (λ x. x.0) y)) ≡ roll-Query (map-Query ((x : Query) × (bound_query [] x ≡ x)) Query (λ x. x.0) y)
unbound_query_step (Query-F.Table name) = fold-roll-Query Query (bound_query_step []) (Query-F.Table name) ∙ sym (q.rolls-Table name)
unbound_query_step (Query-F.Select items source x) = fold-roll-Query Query (bound_query_step []) (Query-F.Select items source.0 x) ∙ ap (λ s. query.Select items s (bound_cond [] x)) source.1 ∙ ap (λ b. query.Select items source.0 b) (unbound_cond x) ∙ sym (q.rolls-Select items source.0 x)
unbound_query_step (Query-F.Join left right x) = fold-roll-Query Query (bound_query_step []) (Query-F.Join left.0 right.0 x) ∙ ap (λ l. query.Join l (bound_query [] right.0) (bound_cond [] x)) left.1 ∙ ap (λ r. query.Join left.0 r (bound_cond [] x)) right.1 ∙ ap (λ b. query.Join left.0 right.0 b) (unbound_cond x) ∙ sym (q.rolls-Join left.0 right.0 x)
unbound_query_step (Query-F.Union left right) = fold-roll-Query Query (bound_query_step []) (Query-F.Union left.0 right.0) ∙ ap (λ l. query.Union l (bound_query [] right.0)) left.1 ∙ ap (λ r. query.Union left.0 r) right.1 ∙ sym (q.rolls-Union left.0 right.0)
unbound_query_step (Query-F.Except left right) = fold-roll-Query Query (bound_query_step []) (Query-F.Except left.0 right.0) ∙ ap (λ l. query.Except l (bound_query [] right.0)) left.1 ∙ ap (λ r. query.Except left.0 r) right.1 ∙ sym (q.rolls-Except left.0 right.0)
unbound_query_step (Query-F.Alias source name) = fold-roll-Query Query (bound_query_step []) (Query-F.Alias source.0 name) ∙ ap (λ s. query.Alias s name) source.1 ∙ sym (q.rolls-Alias source.0 name)
unbound_query_step (Query-F.Choice expr left right) = fold-roll-Query Query (bound_query_step []) (Query-F.Choice expr left.0 right.0) ∙ ap (λ l. query.Choice expr l (bound_query [] right.0)) left.1 ∙ ap (λ r. query.Choice expr left.0 r) right.1 ∙ sym (q.rolls-Choice expr left.0 right.0)
unbound_query_step Query-F.Empty = fold-roll-Query Query (bound_query_step []) Query-F.Empty ∙ sym q.rolls-Empty

pub unbound_query : (x : Query) → bound_query [] x ≡ x
unbound_query = ind-Query (λ x. bound_query [] x ≡ x) (λ x y is. subst (λ z. bound_query [] (roll-Query z) ≡ roll-Query z) is (unbound_query_step y))

unbound_row : (row : List Operand) → bound_row [] row ≡ row
unbound_row [] = refl
unbound_row (o ∷ row) = ap (λ x. x ∷ bound_row [] row) (unbound_operand o) ∙ ap (λ rest. o ∷ rest) (unbound_row row)

unbound_rows : (rows : List (List Operand)) → bound_rows [] rows ≡ rows
unbound_rows [] = refl
unbound_rows (row ∷ rows) = ap (λ x. x ∷ bound_rows [] rows) (unbound_row row) ∙ ap (λ rest. row ∷ rest) (unbound_rows rows)

unbound_set_item : (item : SetItem) → bound_set_item [] item ≡ item
unbound_set_item item = ap (λ v. record { column = item.column; value = v }) (unbound_operand item.value)

unbound_set_items : (items : List SetItem) → bound_set_items [] items ≡ items
unbound_set_items [] = refl
unbound_set_items (item ∷ items) = ap (λ x. x ∷ bound_set_items [] items) (unbound_set_item item) ∙ ap (λ rest. item ∷ rest) (unbound_set_items items)

pub unbound_write : (w : Write) → bound_write [] w ≡ w
unbound_write (write.Insert table columns rows expr) = ap (λ r. write.Insert table columns r expr) (unbound_rows rows)
unbound_write (write.Delete table x expr) = ap (λ b. write.Delete table b expr) (unbound_cond x)
unbound_write (write.Update table items x expr) = ap (λ i. write.Update table i (bound_cond [] x) expr) (unbound_set_items items) ∙ ap (λ b. write.Update table items b expr) (unbound_cond x)

pub unbound_statement : (s : Statement) → bound_statement [] s ≡ s
unbound_statement (statement.Query x) = ap (λ b. statement.Query b) (unbound_query x)
unbound_statement (statement.Write w) = ap (λ b. statement.Write b) (unbound_write w)
unbound_statement statement.Begin = refl
unbound_statement statement.Commit = refl
unbound_statement statement.Rollback = refl
unbound_statement statement.Set = refl
