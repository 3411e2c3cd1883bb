-- In each variant in which a query has a plain type, its meaning has the columns of that type.
use Rattle.std.proofs.Common.{◌≡◌, ℕ, Bool, true, false, List, [], ◌∷◌, ◌++◌, map, filter, Option, Some, None, refl, sym, ◌∙◌, ap, subst, if◌then◌else◌}
use Rattle.feature_expr.specs.Satisfaction.{satisfies}
use Rattle.values.specs.declared.value.Kind.{Kind}
use Rattle.plain_relation.specs.Relations.{Cell, Column, Relation, relation_with}
use Rattle.vra_syntax.specs.declared.cond.Cond.{Cond}
use Rattle.vra_syntax.specs.declared.items.Items.{Items}
use Rattle.vra_syntax.specs.declared.items.Items.TheVariants.{All, Listed}
use Rattle.vra_syntax.specs.declared.query.Query.{Query, fold-Query, map-Query, roll-Query}
use Rattle.vra_syntax.specs.declared.query.Query.TheFolds.{fold-roll-Query, ind-Query}
use Rattle.vra_syntax.specs.declared.query.Query.TheOpen.{Query-F}
use Rattle.vschema.specs.declared.catalog.Table.{Table}
use Rattle.query_meaning.specs.Cases.{Case}
use Rattle.relational_algebra.specs.Columns.{once, merged, aliased, both_sides, in_order_of}
use Rattle.relational_algebra.specs.Conditions.{holds}
use Rattle.relational_algebra.specs.Items.{kept, kept_in_order, possible_kept}
use Rattle.query_meaning.specs.Meaning.{HasColumns, MeantPart, table_in, meaning_step, meaning}
use Rattle.relational_algebra.specs.Operations.{relation_by, pairs, aliased_row, filtered, projected, selected, joined, united, excepted, aliased_relation, chosen}
use Rattle.query_meaning.specs.PlainTypes.{PlainType, Ill, Columns, TypedPart, cases_of, columns_in, unless, where_any, twice, absent_in_items, columns_differ, over, over_both, asked, select_type, join_type, union_type, except_type, alias_type, chosen_type, type_step, typed_part, plain_type}
use Rattle.query_meaning.specs.Sources.{catalog_source, number_of, source_by}

columns_with : (columns : List Column) (rows : List (List Cell)) → (relation_with columns rows).columns ≡ columns
columns_with [] rows = refl
columns_with (column ∷ columns) rows = refl

columns_by : (columns : List Column) (rows : List (List Cell)) → (relation_by columns rows).columns ≡ columns
columns_by [] rows = refl
columns_by (column ∷ columns) rows = refl

unless_columns : (cases : List Case) (columns : List Column) → cases_of (unless cases columns) ≡ [] → columns_in (unless cases columns) ≡ columns
unless_columns [] columns e = refl
unless_columns (first ∷ more) columns e = absurd (cc e)

-- a relation has the columns of a type, if that is one
abbrev Fits : PlainType → Relation → Type 0
Fits type r = cases_of type ≡ [] → r.columns ≡ columns_in type

columns_projected : (order : List Column) (c : List ℕ) (items : Items) (x : Relation) → (projected order c items x).columns ≡ kept_in_order order c items x.columns
columns_projected order c All x = refl
columns_projected order c (Listed items) x = columns_by _ _

columns_selected : (order : List Column) (c : List ℕ) (items : Items) (cond : Cond) (x : Relation) (columns : List Column) → x.columns ≡ columns → (selected order c items cond x).columns ≡ kept_in_order order c items columns
columns_selected order c items cond x columns is = columns_projected order c items (filtered c cond x) ∙ ap (kept_in_order order c items) (columns_with x.columns _ ∙ is)

ordered_both : (form : List Column → List Column → List Column) (o p a b x y : List Column) → o ≡ p → a ≡ x → b ≡ y → in_order_of o (form a b) ≡ in_order_of p (form x y)
ordered_both form o p a b x y e f g = ap (λ k. in_order_of k (form a b)) e ∙ ap (λ k. in_order_of p (form k b)) f ∙ ap (λ k. in_order_of p (form x k)) g

columns_joined : (o : List Column) (c : List ℕ) (cond : Cond) (x y : Relation) → (joined o c cond x y).columns ≡ in_order_of o (both_sides x.columns y.columns)
columns_joined o c cond x y = columns_by (in_order_of o (both_sides x.columns y.columns)) (filter (holds c cond) (pairs x.rows y.rows))

columns_united : (o : List Column) (x y : Relation) → (united o x y).columns ≡ in_order_of o (x.columns ++ y.columns)
columns_united o x y = columns_by (in_order_of o (x.columns ++ y.columns)) (x.rows ++ y.rows)

columns_aliased : (o : List Column) (alias : List ℕ) (x : Relation) → (aliased_relation o alias x).columns ≡ in_order_of o (aliased alias x.columns)
columns_aliased o alias x = columns_by (in_order_of o (aliased alias x.columns)) (map (aliased_row alias) x.rows)

columns_excepted : (x y : Relation) → (excepted x y).columns ≡ x.columns
columns_excepted x y = columns_with x.columns _

columns_chosen : (o : List Column) (x : Relation) → (chosen o x).columns ≡ in_order_of o x.columns
columns_chosen o x = columns_by (in_order_of o x.columns) x.rows

select_fits : (order o : List Column) (c : List ℕ) (items : Items) (cond : Cond) (ask : List Column → List Case) (t : PlainType) (x : Relation) → o ≡ order → Fits t x → Fits (over (select_type order c items ask) t) (selected o c items cond x)
select_fits order o c items cond ask (Ill first more) x is h e = absurd (cc e)
select_fits order o c items cond ask (Columns ks) x is h e =
    columns_selected o c items cond x ks (h refl) ∙ ap (λ k. kept_in_order k c items ks) is
    ∙ sym (unless_columns (where_any ks (absent_in_items c items ks ++ twice (kept c items ks) ++ ask ks)) (kept_in_order order c items ks) e)

join_fits : (order o : List Column) (c : List ℕ) (cond : Cond) (ask : List Column → List Case) (s t : PlainType) (x y : Relation) → o ≡ order → Fits s x → Fits t y → Fits (over_both (join_type order ask) s t) (joined o c cond x y)
join_fits order o c cond ask (Ill first more) t x y is h k e = absurd (cc e)
join_fits order o c cond ask (Columns l) (Ill first more) x y is h k e = absurd (cc e)
join_fits order o c cond ask (Columns l) (Columns r) x y is h k e =
    columns_joined o c cond x y ∙ ordered_both both_sides o order x.columns y.columns l r is (h refl) (k refl)
    ∙ sym (unless_columns (twice (both_sides l r) ++ where_any (both_sides l r) (ask (both_sides l r))) (in_order_of order (both_sides l r)) e)

union_fits : (order o : List Column) (s t : PlainType) (x y : Relation) → o ≡ order → Fits s x → Fits t y → Fits (over_both (union_type order) s t) (united o x y)
union_fits order o (Ill first more) t x y is h k e = absurd (cc e)
union_fits order o (Columns l) (Ill first more) x y is h k e = absurd (cc e)
union_fits order o (Columns l) (Columns r) x y is h k e =
    columns_united o x y ∙ ordered_both (λ a b. a ++ b) o order x.columns y.columns l r is (h refl) (k refl)
    ∙ sym (unless_columns (columns_differ l r) (in_order_of order (l ++ r)) e)

except_fits : (s t : PlainType) (x y : Relation) → Fits s x → Fits t y → Fits (over_both except_type s t) (excepted x y)
except_fits (Ill first more) t x y h k e = absurd (cc e)
except_fits (Columns l) (Ill first more) x y h k e = absurd (cc e)
except_fits (Columns l) (Columns r) x y h k e = columns_excepted x y ∙ h refl ∙ sym (unless_columns (columns_differ l r) l e)

alias_fits : (order o : List Column) (alias : List ℕ) (t : PlainType) (x : Relation) → o ≡ order → Fits t x → Fits (over (alias_type order alias) t) (aliased_relation o alias x)
alias_fits order o alias (Ill first more) x is h e = absurd (cc e)
alias_fits order o alias (Columns ks) x is h e =
    columns_aliased o alias x ∙ ordered_both (λ a b. aliased alias a) o order x.columns x.columns ks ks is (h refl) (h refl)
    ∙ sym (unless_columns (twice (aliased alias ks)) (in_order_of order (aliased alias ks)) e)

chosen_fits : (order o : List Column) (t : PlainType) (x : Relation) → o ≡ order → Fits t x → Fits (chosen_type order t) (chosen o x)
chosen_fits order o (Ill first more) x is h e = absurd (cc e)
chosen_fits order o (Columns ks) x is h e = columns_chosen o x ∙ ap (λ k. in_order_of k x.columns) is ∙ ap (in_order_of order) (h refl)

choice_fits : (b : Bool) (order o : List Column) (s t : PlainType) (x y : Relation) → o ≡ order → Fits s x → Fits t y → Fits (chosen_type order (if b then s else t)) (chosen o (if b then x else y))
choice_fits true order o s t x y is h k = chosen_fits order o s x is h
choice_fits false order o s t x y is h k = chosen_fits order o t y is k

-- a part's meaning has the possible columns of its type, and the columns
pub record Means (m : MeantPart) (t : TypedPart) : Type 0 where
  pub possible : m.possible ≡ t.possible
  pub columns : Fits t.type m.relation

both_merged : (a b x y : List Column) → a ≡ x → b ≡ y → merged a b ≡ merged x y
both_merged a b x y e f = ap (λ k. merged k b) e ∙ ap (merged x) f

module _ (c : List ℕ) (kinds : List Kind) (tables : List Table) (database : ℕ → Relation) (has : HasColumns c (catalog_source tables) database) where
  abbrev meant : Query → MeantPart
  meant query = fold-Query MeantPart (meaning_step c tables database) query

  abbrev P : Query → Type 0
  P query = Means (meant query) (typed_part c kinds tables query)

  rolled : (x : Query-F Query) → Means (meaning_step c tables database (map-Query Query MeantPart meant x)) (type_step c kinds tables (map-Query Query TypedPart (typed_part c kinds tables) x)) → P (roll-Query x)
  rolled x f = subst (λ (m : MeantPart). Means m (typed_part c kinds tables (roll-Query x))) (sym (fold-roll-Query MeantPart (meaning_step c tables database) x)) (subst (λ (t : TypedPart). Means (meaning_step c tables database (map-Query Query MeantPart meant x)) t) (sym (fold-roll-Query TypedPart (type_step c kinds tables) x)) f)

  columns_stored : (number : Option ℕ) → (table_in database number).columns ≡ (source_by (catalog_source tables) number).columns_at c
  columns_stored None = refl
  columns_stored (Some n) = has n

  layer : (y : Query-F ((query : Query) × P query)) → P (roll-Query (map-Query ((query : Query) × P query) Query (λ e. e.0) y))
  layer (Query-F.Table name) = rolled (Query-F.Table name) (record { possible = refl; columns = λ e. columns_stored (number_of tables name) })
  layer (Query-F.Select items s cond) = rolled (Query-F.Select items s.0 cond) (record {
    possible = ap (possible_kept items) s.1.possible;
    columns = select_fits (possible_kept items (typed_part c kinds tables s.0).possible) (possible_kept items (meant s.0).possible) c items cond (asked c kinds cond) (typed_part c kinds tables s.0).type (meant s.0).relation (ap (possible_kept items) s.1.possible) s.1.columns;
  })
  layer (Query-F.Join l r cond) = rolled (Query-F.Join l.0 r.0 cond) (record {
    possible = both_merged _ _ _ _ l.1.possible r.1.possible;
    columns = join_fits (merged (typed_part c kinds tables l.0).possible (typed_part c kinds tables r.0).possible) (merged (meant l.0).possible (meant r.0).possible) c cond (asked c kinds cond) (typed_part c kinds tables l.0).type (typed_part c kinds tables r.0).type (meant l.0).relation (meant r.0).relation (both_merged _ _ _ _ l.1.possible r.1.possible) l.1.columns r.1.columns;
  })
  layer (Query-F.Union l r) = rolled (Query-F.Union l.0 r.0) (record {
    possible = both_merged _ _ _ _ l.1.possible r.1.possible;
    columns = union_fits (merged (typed_part c kinds tables l.0).possible (typed_part c kinds tables r.0).possible) (merged (meant l.0).possible (meant r.0).possible) (typed_part c kinds tables l.0).type (typed_part c kinds tables r.0).type (meant l.0).relation (meant r.0).relation (both_merged _ _ _ _ l.1.possible r.1.possible) l.1.columns r.1.columns;
  })
  layer (Query-F.Except l r) = rolled (Query-F.Except l.0 r.0) (record {
    possible = l.1.possible;
    columns = except_fits (typed_part c kinds tables l.0).type (typed_part c kinds tables r.0).type (meant l.0).relation (meant r.0).relation l.1.columns r.1.columns;
  })
  layer (Query-F.Alias s name) = rolled (Query-F.Alias s.0 name) (record {
    possible = ap (λ k. once (aliased name k)) s.1.possible;
    columns = alias_fits (once (aliased name (typed_part c kinds tables s.0).possible)) (once (aliased name (meant s.0).possible)) name (typed_part c kinds tables s.0).type (meant s.0).relation (ap (λ k. once (aliased name k)) s.1.possible) s.1.columns;
  })
  layer (Query-F.Choice expr l r) = rolled (Query-F.Choice expr l.0 r.0) (record {
    possible = both_merged _ _ _ _ l.1.possible r.1.possible;
    columns = choice_fits (satisfies c expr) (merged (typed_part c kinds tables l.0).possible (typed_part c kinds tables r.0).possible) (merged (meant l.0).possible (meant r.0).possible) (typed_part c kinds tables l.0).type (typed_part c kinds tables r.0).type (meant l.0).relation (meant r.0).relation (both_merged _ _ _ _ l.1.possible r.1.possible) l.1.columns r.1.columns;
  })
  layer Query-F.Empty = rolled Query-F.Empty (record { possible = refl; columns = λ e. refl })

  means : (query : Query) → P query
  means = ind-Query P (λ x y is. subst (λ z. P (roll-Query z)) is (layer y))

  pub columns_meant : (query : Query) → cases_of (plain_type c kinds tables query) ≡ [] → (meaning c tables database query).columns ≡ columns_in (plain_type c kinds tables query)
  columns_meant query e = (means query).columns e
