-- The tables with their present rows, one after another.
use Rattle.std.proofs.Common.{◌≡◌, ◌∙◌, List, [], ◌∷◌, ◌++◌, refl, sym, ap, append-nil, append_assoc}
use Rattle.feature_expr.specs.declared.expr.Expr.{Expr}
use Rattle.opened_tables.specs.Opened.{IsSoFar, PutsNext, present, present_tables}
use Rattle.plan_tables.specs.declared.rows.TableRows.{TableRows}
use Rattle.vschema.specs.declared.catalog.Table.{Table}

pub one_put : (model : Expr) (table : Table) (tables left : List Table) (it : TableRows) (old new : List TableRows) → tables ≡ table ∷ left → new ≡ old ++ present model table it ∷ [] → PutsNext model tables it old left new
one_put model table tables left it old new is put = record {
  on = λ rest.
      ap (λ xs. xs ++ present_tables model left rest) put
      ∙ append_assoc old (present model table it ∷ []) (present_tables model left rest)
      ∙ sym (ap (λ ts. old ++ present_tables model ts (it ∷ rest)) is);
}

pub none_put : (model : Expr) (tables : List Table) (it : TableRows) (old : List TableRows) → tables ≡ [] → PutsNext model tables it old tables old
none_put model tables it old is = record { on = λ rest. ap (λ ts. old ++ present_tables model ts rest) is ∙ sym (ap (λ ts. old ++ present_tables model ts (it ∷ rest)) is) }

pub at_start : (model : Expr) (tables : List Table) → IsSoFar model tables tables [] []
at_start model tables = record { on = λ rest. refl }

pub goes_on : (model : Expr) (tables mid left : List Table) (it : TableRows) (yielded old new : List TableRows) → IsSoFar model tables mid yielded old → PutsNext model mid it old left new → IsSoFar model tables left (yielded ++ it ∷ []) new
goes_on model tables mid left it yielded old new so_far put = record {
  on = λ rest. put.on rest ∙ so_far.on (it ∷ rest) ∙ ap (present_tables model tables) (sym (append_assoc yielded (it ∷ []) rest));
}

none_of : (model : Expr) (left : List Table) → present_tables model left [] ≡ []
none_of model [] = refl
none_of model (table ∷ left) = refl

pub at_end : (model : Expr) (tables left : List Table) (all so_far : List TableRows) → IsSoFar model tables left all so_far → so_far ≡ present_tables model tables all
at_end model tables left all so_far it =
    sym (append-nil so_far) ∙ sym (ap (λ xs. so_far ++ xs) (none_of model left)) ∙ it.on [] ∙ ap (present_tables model tables) (append-nil all)
