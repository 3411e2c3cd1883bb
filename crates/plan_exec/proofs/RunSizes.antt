-- The rows of a plan's table, their conditions and those of its columns are within the plan's bounds; so the table is
-- the run of the plan.
use Rattle.std.proofs.Common.{◌≡◌, ◌∙◌, ℕ, true, List, [], ◌++◌, map, Option, Some, None, refl, sym, subst, arith}
use Rattle.std.specs.List.{AllByRecursion}
use Rattle.feature_expr.specs.Expressions.{not_of}
use Rattle.feature_expr.specs.declared.expr.Expr.{Expr}
use Rattle.plain_relation.specs.Relations.{Column}
use Rattle.query_meaning.specs.Bounds.{IsWithin, Size, SizedPart, aliased_size, chosen_size, excepted_size, filtered_size, joined_size, kept_size, no_size, plan_size, plan_size_step, united_size}
use Rattle.query_meaning.specs.declared.plan.Plan.{Plan, fold-Plan, map-Plan, roll-Plan}
use Rattle.query_meaning.specs.declared.plan.Plan.TheFolds.{fold-roll-Plan, ind-Plan}
use Rattle.query_meaning.specs.declared.plan.Plan.TheOpen.{Plan-F}
use Rattle.relational_algebra.specs.Items.{possible_kept}
use Rattle.plan_merges.proofs.GivenLaws.{alias_sized, join_sized, keep_sized}
use Rattle.plan_exec.proofs.FeatureLaws.{run_known}
use Rattle.plan_exec.proofs.RunLaws.{StoredBy, alias_possible, all_stored, both_possible, chosen_possible, join_possible, kept_possible, once_as, run_answered, run_possible, same_itself}
use Rattle.plan_tables.proofs.SettleLaws.{settled_headings, settled_once}
use Rattle.plan_operators.proofs.SizeLaws.{choice_sized, except_sized, filter_sized, union_sized}
use Rattle.plan_merges.specs.Merges.{aliased_column, items_table, kept_table, pairs_table}
use Rattle.plan_exec.specs.RunTables.{run_step, run_table, table_by}
use Rattle.plan_exec.specs.Runs.{CanRun, IsRunOf}
use Rattle.plan_tables.specs.StoredRows.{IsStored, rows_of, rows_size, rows_source, size_by, size_of, source_by}
use Rattle.plan_tables.specs.Tables.{columns_under, headings, once_each}
use Rattle.plan_tables.specs.declared.rows.TableRows.{TableRows}
use Rattle.vra_syntax.specs.declared.cond.Cond.{Cond}
use Rattle.vra_syntax.specs.declared.items.Items.{Items}
use Rattle.vra_syntax.specs.declared.items.Items.TheVariants.{All, Listed}
use Rattle.vtable.specs.declared.table.VTable.{VTable}

within_trans : (x y z : Size) → IsWithin x y → IsWithin y z → IsWithin x z
within_trans x y z h k = record {
  rows = let a = h.rows in let b = k.rows in omega (arith, a, b);
  row_weight = let a = h.row_weight in let b = k.row_weight in omega (arith, a, b);
  column_weight = let a = h.column_weight in let b = k.column_weight in omega (arith, a, b);
}

-- the bounds of a form never fall when those of its parts don't
pub record Growing : Type 0 where
  pub filtered : (cond : Cond) (x y : Size) → IsWithin x y → IsWithin (filtered_size cond x) (filtered_size cond y)
  pub kept : (items : Items) (x y : Size) → IsWithin x y → IsWithin (kept_size items x) (kept_size items y)
  pub joined : (a b : List Column) (cond : Cond) (l r m s : Size) → IsWithin l m → IsWithin r s → IsWithin (joined_size a b cond l r) (joined_size a b cond m s)
  pub united : (a b : List Column) (l r m s : Size) → IsWithin l m → IsWithin r s → IsWithin (united_size a b l r) (united_size a b m s)
  pub excepted : (a b : List Column) (l r m s : Size) → IsWithin l m → IsWithin r s → IsWithin (excepted_size a b l r) (excepted_size a b m s)
  pub aliased : (a : List Column) (name : List ℕ) (x y : Size) → IsWithin x y → IsWithin (aliased_size a name x) (aliased_size a name y)
  pub chosen : (a b : List Column) (expr : Expr) (l r m s : Size) → IsWithin l m → IsWithin r s → IsWithin (chosen_size a b expr l r) (chosen_size a b expr m s)

-- the table of a part, within the part's bounds
pub record Sized (t : VTable) (part : SizedPart) : Type 0 where
  pub one : once_each (headings t.columns) ≡ true
  pub possible : part.possible ≡ headings t.columns
  pub within : IsWithin (size_of t) part.size

-- a form of one part, or of two, whose bounds are made of the columns that are possible in them
bounded : (form : List Column → Size) (z : Size) (a p : List Column) → p ≡ a → IsWithin z (form a) → IsWithin z (form p)
bounded form z a p is h = subst (λ k. IsWithin z (form k)) (sym is) h

bounded_both : (form : List Column → List Column → Size) (z : Size) (a b p q : List Column) → p ≡ a → q ≡ b → IsWithin z (form a b) → IsWithin z (form p q)
bounded_both form z a b p q is same h = subst (λ k. IsWithin z (form k q)) (sym is) (subst (λ k. IsWithin z (form a k)) (sym same) h)

module _ (laws : Growing) (tables : List TableRows) where
  abbrev sized : Plan → SizedPart
  sized p = fold-Plan SizedPart (plan_size_step (rows_source tables) (rows_size tables)) p

  abbrev P : Plan → Type 0
  P p = Sized (run_table tables p) (sized p)

  rolled : (x : Plan-F Plan) → Sized (run_step tables (map-Plan Plan VTable (run_table tables) x)) (plan_size_step (rows_source tables) (rows_size tables) (map-Plan Plan SizedPart sized x)) → P (roll-Plan x)
  rolled x f =
      subst (λ (t : VTable). Sized t (sized (roll-Plan x))) (sym (fold-roll-Plan VTable (run_step tables) x))
      (subst (λ (part : SizedPart). Sized (run_step tables (map-Plan Plan VTable (run_table tables) x)) part) (sym (fold-roll-Plan SizedPart (plan_size_step (rows_source tables) (rows_size tables)) x)) f)

  same_size : (z : Size) → IsWithin z z
  same_size z = record { rows = omega arith; row_weight = omega arith; column_weight = omega arith }

  scan_sized : (model : Expr) (table : Option TableRows) → StoredBy model table → Sized (table_by table) (record { possible = (source_by table).possible; size = size_by table })
  scan_sized model None stored = record { one = refl; possible = refl; within = same_size no_size }
  scan_sized model (Some table) stored = record { one = once_as [] table.rows.columns stored.distinct; possible = refl; within = same_size (size_of table.rows) }

  module _ (model : Expr) (all : (number : ℕ) → StoredBy model (rows_of tables number)) where
    keep_bounded : (items : Items) (p : Plan) → P p → Sized (kept_table items (run_table tables p)) (record { possible = possible_kept items (sized p).possible; size = kept_size items (sized p).size })
    keep_bounded All p f = record { one = f.one; possible = f.possible; within = f.within }
    keep_bounded (Listed items) p f = record {
      one = settled_once (items_table items (run_table tables p)).columns;
      possible = kept_possible [] items (run_table tables p) (sized p).possible f.possible;
      within = within_trans _ _ _ (keep_sized (Listed items) (run_table tables p) f.one) (laws.kept (Listed items) (size_of (run_table tables p)) (sized p).size f.within);
    }

    layer : (y : Plan-F ((p : Plan) × P p)) → P (roll-Plan (map-Plan ((p : Plan) × P p) Plan (λ e. e.0) y))
    layer (Plan-F.Scan number) = rolled (Plan-F.Scan number) (scan_sized model (rows_of tables number) (all number))
    layer (Plan-F.Filter s cond) = rolled (Plan-F.Filter s.0 cond) (record {
      one = s.1.one;
      possible = s.1.possible;
      within = within_trans _ _ _ (filter_sized cond (run_table tables s.0)) (laws.filtered cond (size_of (run_table tables s.0)) (sized s.0).size s.1.within);
    })
    layer (Plan-F.Keep s items) = rolled (Plan-F.Keep s.0 items) (keep_bounded items s.0 s.1)
    layer (Plan-F.Join l r cond) = rolled (Plan-F.Join l.0 r.0 cond) (record {
      one = settled_once (pairs_table cond (run_table tables l.0) (run_table tables r.0)).columns;
      possible = join_possible [] (run_table tables l.0) (run_table tables r.0) cond (sized l.0).possible (sized r.0).possible l.1.possible r.1.possible;
      within = bounded_both (λ p q. joined_size p q cond (sized l.0).size (sized r.0).size) _ _ _ _ _ l.1.possible r.1.possible (
          within_trans _ _ _ (join_sized cond (run_table tables l.0) (run_table tables r.0) l.1.one r.1.one)
          (laws.joined _ _ cond (size_of (run_table tables l.0)) (size_of (run_table tables r.0)) (sized l.0).size (sized r.0).size l.1.within r.1.within));
    })
    layer (Plan-F.Union l r) = rolled (Plan-F.Union l.0 r.0) (record {
      one = settled_once ((run_table tables l.0).columns ++ (run_table tables r.0).columns);
      possible = both_possible [] (run_table tables l.0) (run_table tables r.0) (sized l.0).possible (sized r.0).possible l.1.possible r.1.possible ∙ sym (settled_headings ((run_table tables l.0).columns ++ (run_table tables r.0).columns));
      within = bounded_both (λ p q. united_size p q (sized l.0).size (sized r.0).size) _ _ _ _ _ l.1.possible r.1.possible (
          within_trans _ _ _ (union_sized (run_table tables l.0) (run_table tables r.0))
          (laws.united _ _ (size_of (run_table tables l.0)) (size_of (run_table tables r.0)) (sized l.0).size (sized r.0).size l.1.within r.1.within));
    })
    layer (Plan-F.Except l r) = rolled (Plan-F.Except l.0 r.0) (record {
      one = l.1.one;
      possible = l.1.possible;
      within = bounded_both (λ p q. excepted_size p q (sized l.0).size (sized r.0).size) _ _ _ _ _ l.1.possible r.1.possible (
          within_trans _ _ _ (except_sized (run_table tables l.0) (run_table tables r.0))
          (laws.excepted _ _ (size_of (run_table tables l.0)) (size_of (run_table tables r.0)) (sized l.0).size (sized r.0).size l.1.within r.1.within));
    })
    layer (Plan-F.Rename s alias) = rolled (Plan-F.Rename s.0 alias) (record {
      one = settled_once (map (aliased_column alias) (run_table tables s.0).columns);
      possible = alias_possible [] alias (run_table tables s.0) (sized s.0).possible s.1.possible;
      within = bounded (λ p. aliased_size p alias (sized s.0).size) _ _ _ s.1.possible (
          within_trans _ _ _ (alias_sized alias (run_table tables s.0) s.1.one)
          (laws.aliased (headings (run_table tables s.0).columns) alias (size_of (run_table tables s.0)) (sized s.0).size s.1.within));
    })
    layer (Plan-F.Choose expr l r) = rolled (Plan-F.Choose expr l.0 r.0) (record {
      one = settled_once (columns_under expr (run_table tables l.0).columns ++ columns_under (not_of expr) (run_table tables r.0).columns);
      possible = chosen_possible [] (run_table tables l.0) (run_table tables r.0) expr (sized l.0).possible (sized r.0).possible l.1.possible r.1.possible;
      within = bounded_both (λ p q. chosen_size p q expr (sized l.0).size (sized r.0).size) _ _ _ _ _ l.1.possible r.1.possible (
          within_trans _ _ _ (choice_sized expr (run_table tables l.0) (run_table tables r.0))
          (laws.chosen _ _ expr (size_of (run_table tables l.0)) (size_of (run_table tables r.0)) (sized l.0).size (sized r.0).size l.1.within r.1.within));
    })
    layer Plan-F.Nothing = rolled Plan-F.Nothing (record { one = refl; possible = refl; within = same_size no_size })

    run_sized : (p : Plan) → P p
    run_sized = ind-Plan P (λ x y is. subst (λ z. P (roll-Plan z)) is (layer y))

pub run_within : Growing → (model : Expr) (tables : List TableRows) → AllByRecursion (λ (table : TableRows). IsStored model table.rows) tables → (p : Plan) → IsWithin (size_of (run_table tables p)) (plan_size (rows_source tables) (rows_size tables) p)
run_within laws model tables stored p = (run_sized laws tables model (all_stored model tables stored) p).within

pub run_is : Growing → (model : Expr) (tables : List TableRows) (p : Plan) (table : VTable) → CanRun model tables p → table ≡ run_table tables p → IsRunOf model tables p table
run_is laws model tables p table can is = subst (IsRunOf model tables p) (sym is) (record {
  columns = sym (run_possible tables p);
  formed = λ c admitted. (run_answered model tables p can c admitted).answer;
  means = λ c admitted. same_itself _ _ (run_answered model tables p can c admitted).means;
  rows = (run_within laws model tables can.stored p).rows;
  row_weight = (run_within laws model tables can.stored p).row_weight;
  features = λ feature. run_known feature tables p;
})
