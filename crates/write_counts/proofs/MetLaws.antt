-- The rows of which a condition is true in some variant, one by one.
use Rattle.std.proofs.Common.{◌≡◌, ◌∙◌, ℕ, ◌+◌, ◌<◌, Bool, true, false, cond, ◌&&◌, List, [], ◌∷◌, ◌++◌, map, filter, length, take, get_or, Option, sym, ap, subst, append-nil}
use Rattle.std.proofs.lemmas.List.{map-append, take_more}
use Rattle.std.proofs.lemmas.List.Elements.{filter-append}
use Rattle.condition_sat.proofs.PossibleLaws.{some_admitted_same}
use Rattle.feature_expr.specs.Satisfaction.{satisfies}
use Rattle.feature_expr.specs.declared.expr.Expr.{Expr}
use Rattle.relational_algebra.specs.Conditions.{holds}
use Rattle.row_conditions.specs.RowConditions.{row_at}
use Rattle.row_writes.proofs.NameLaws.{distinct_cells}
use Rattle.row_writes.specs.Made.{IsTouchOn, can_touch}
use Rattle.values.specs.declared.value.Value.{Value}
use Rattle.vra_syntax.specs.declared.cond.Cond.{Cond}
use Rattle.vschema.specs.Formed.{has_distinct_columns}
use Rattle.vschema.specs.declared.catalog.Table.{Table}
use Rattle.vtable.specs.declared.table.VColumn.{VColumn}
use Rattle.vtable.specs.declared.table.VRow.{VRow}
use Rattle.write_counts.specs.Counts.{is_mandatory}
use Rattle.write_counts.specs.Lists.{AreOnce, cells_in, is_met, marked, met_lists}
use Rattle.write_meaning.specs.StoredTables.{stored_columns}

-- one question decides whether the condition is true of a row in some variant
pub met_is : (model : Expr) (table : Table) (columns : List VColumn) (expr : Expr) (test : Cond) (row : VRow) (touch : Expr) (met : Bool) → columns ≡ stored_columns table → has_distinct_columns table ≡ true
    → IsTouchOn expr test columns row touch → met ≡ can_touch model table row touch → met ≡ is_met model table expr test row
met_is model table columns expr test row touch met are distinct touches says =
    let exact = (subst (λ ks. IsTouchOn expr test ks row touch) are touches).exact in
    says
    ∙ some_admitted_same model (λ c. satisfies c table.cond && (satisfies c row.cond && satisfies c touch))
    (λ c. satisfies c table.cond && (satisfies c row.cond && (satisfies c expr && holds c test (row_at c (stored_columns table) row))))
    (λ c admitted. ap (λ b. satisfies c table.cond && (satisfies c row.cond && b)) (exact c (distinct_cells c table row distinct)))

abbrev CellList : Type 0
CellList = List (Option Value)

module _ (model : Expr) (table : Table) (expr : Expr) (test : Cond) where
  -- of no rows there is no list
  pub none_met : (lists : List CellList) → lists ≡ [] → AreOnce (met_lists model table expr test []) lists
  none_met lists is = subst (AreOnce []) (sym is) (record { distinct = tt; same = λ cells. (λ h. h, λ h. h) })

  abbrev one_list : Bool → VRow → List CellList
  one_list met row = map (cells_in model table) (cond met (row ∷ []) [])

  next : (rows : List VRow) (i : ℕ) (row : VRow) → i < length rows → row ≡ get_or rows i row
      → met_lists model table expr test (take (i + 1) rows) ≡ met_lists model table expr test (take i rows) ++ one_list (is_met model table expr test row) row
  next rows i row below is =
      ap (met_lists model table expr test) (take_more rows i row below ∙ ap (λ x. take i rows ++ x ∷ []) (sym is))
      ∙ ap (map (cells_in model table)) (filter-append (is_met model table expr test) (take i rows) (row ∷ []))
      ∙ map-append (cells_in model table) (filter (is_met model table expr test) (take i rows)) (filter (is_met model table expr test) (row ∷ []))

  -- one row more, if the condition is true of it
  pub met_more : (rows : List VRow) (i : ℕ) (row : VRow) (met : Bool) (marks : List Bool) (cells : CellList) (old new : List CellList) → i < length rows → row ≡ get_or rows i row
      → met ≡ is_met model table expr test row → met ≡ true → marks ≡ map (is_mandatory model table) table.columns → cells ≡ marked marks row.cells
      → AreOnce (met_lists model table expr test (take i rows)) old → ((all : List CellList) → AreOnce all old → AreOnce (all ++ cells ∷ []) new)
      → AreOnce (met_lists model table expr test (take (i + 1) rows)) new
  met_more rows i row met marks cells old new below is says passes marks_are cells_are once adds =
      let all = met_lists model table expr test (take i rows) in
      subst (λ lists. AreOnce lists new)
      (ap (λ list. all ++ list ∷ []) (cells_are ∙ ap (λ ms. marked ms row.cells) marks_are)
      ∙ sym (next rows i row below is ∙ ap (λ b. all ++ one_list b row) (sym says ∙ passes)))
      (adds all once)

  -- and if it isn't
  pub unmet_more : (rows : List VRow) (i : ℕ) (row : VRow) (met : Bool) (lists : List CellList) → i < length rows → row ≡ get_or rows i row
      → met ≡ is_met model table expr test row → met ≡ false → AreOnce (met_lists model table expr test (take i rows)) lists
      → AreOnce (met_lists model table expr test (take (i + 1) rows)) lists
  unmet_more rows i row met lists below is says fails once =
      let all = met_lists model table expr test (take i rows) in
      subst (λ all. AreOnce all lists) (sym (next rows i row below is ∙ ap (λ b. all ++ one_list b row) (sym says ∙ fails) ∙ append-nil all)) once
