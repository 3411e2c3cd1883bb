-- How many pairs of rows the joins of a plan form, where it is taken apart from the left; and that they are within the
-- plan's bound.
use Rattle.std.proofs.Common.{◌≡◌, ◌∙◌, ◌≤◌, ℕ, ◌+◌, ◌*◌, List, [], ◌∷◌, ◌++◌, length, refl, sym, ap, ap₂, subst, arith}
use Rattle.std.proofs.lemmas.Nat.{mul-le}
use Rattle.std.specs.List.{AllByRecursion}
use Rattle.feature_expr.specs.declared.expr.Expr.{Expr}
use Rattle.query_meaning.specs.Bounds.{PairedPart, SizedPart, pairs_step, pairs_at, plan_size_step}
use Rattle.query_meaning.specs.declared.plan.Plan.{Plan, fold-Plan, map-Plan, roll-Plan}
use Rattle.query_meaning.specs.declared.plan.Plan as plan
use Rattle.query_meaning.specs.declared.plan.Plan.TheFolds.{fold-roll-Plan, ind-Plan}
use Rattle.query_meaning.specs.declared.plan.Plan.TheOpen.{Plan-F}
use denote.Hole.Carrier
use Rattle.plan_exec.proofs.RunSizes.{Growing, run_within}
use Rattle.plan_exec.proofs.StepLaws.{rewrapped_table_push, run_join}
use Rattle.plan_merges.specs.Merges.{joined_table}
use Rattle.plan_exec.specs.RunPairs.{RunPart, pairs_of, part_step, rewrapped_pairs, run_pairs, run_pairs_at, run_part, wrapped_pairs}
use Rattle.plan_exec.specs.RunTables.{run_step, run_table, wrapped_table}
use Rattle.plan_exec.specs.Runs.{steps_bound}
use Rattle.plan_exec.specs.declared.plan_run.PlanStep.{PlanStep}
use Rattle.plan_tables.specs.StoredRows.{IsStored, rows_size, rows_source}
use Rattle.plan_tables.specs.declared.rows.TableRows.{TableRows}
use Rattle.vra_syntax.specs.declared.cond.Cond.{Cond}
use Rattle.vtable.specs.declared.table.VTable.{VTable}

pub rewrapped_pairs_push : (steps : List PlanStep) (step : PlanStep) (inner : VTable) → rewrapped_pairs (steps ++ step ∷ []) inner ≡ rewrapped_pairs steps (wrapped_table step inner) + wrapped_pairs step inner
rewrapped_pairs_push [] step inner = refl
rewrapped_pairs_push (s ∷ steps) step inner =
    let rest = rewrapped_pairs_push steps step inner in
    let here = ap (wrapped_pairs s) (rewrapped_table_push steps step inner) in
    omega (arith, rest, here)

-- ---- what a fold carries beside something else is a fold of its own

module _ {A B : Type 0} (f : Plan-F A → A) (g : Plan-F B → B) (h : B → A) (carries : (form : Plan-F B) → h (g form) ≡ f (map-Plan B A h form)) where
  abbrev C : Plan → Type 0
  C p = h (fold-Plan B g p) ≡ fold-Plan A f p

  carried_as : (x : Plan-F Plan) → f (map-Plan B A h (map-Plan Plan B (fold-Plan B g) x)) ≡ f (map-Plan Plan A (fold-Plan A f) x) → C (roll-Plan x)
  carried_as x is = ap h (fold-roll-Plan B g x) ∙ carries (map-Plan Plan B (fold-Plan B g) x) ∙ is ∙ sym (fold-roll-Plan A f x)

  carried_layer : (y : Plan-F ((p : Plan) × C p)) → C (roll-Plan (map-Plan ((p : Plan) × C p) Plan (λ e. e.0) y))
  carried_layer (Plan-F.Scan number) = carried_as (Plan-F.Scan number) refl
  carried_layer (Plan-F.Filter s cond) = carried_as (Plan-F.Filter s.0 cond) (ap (λ a. f (Plan-F.Filter a cond)) s.1)
  carried_layer (Plan-F.Keep s items) = carried_as (Plan-F.Keep s.0 items) (ap (λ a. f (Plan-F.Keep a items)) s.1)
  carried_layer (Plan-F.Join l r cond) = carried_as (Plan-F.Join l.0 r.0 cond) (ap₂ (λ a b. f (Plan-F.Join a b cond)) l.1 r.1)
  carried_layer (Plan-F.Union l r) = carried_as (Plan-F.Union l.0 r.0) (ap₂ (λ a b. f (Plan-F.Union a b)) l.1 r.1)
  carried_layer (Plan-F.Except l r) = carried_as (Plan-F.Except l.0 r.0) (ap₂ (λ a b. f (Plan-F.Except a b)) l.1 r.1)
  carried_layer (Plan-F.Rename s alias) = carried_as (Plan-F.Rename s.0 alias) (ap (λ a. f (Plan-F.Rename a alias)) s.1)
  carried_layer (Plan-F.Choose expr l r) = carried_as (Plan-F.Choose expr l.0 r.0) (ap₂ (λ a b. f (Plan-F.Choose expr a b)) l.1 r.1)
  carried_layer Plan-F.Nothing = carried_as Plan-F.Nothing refl

  carried : (p : Plan) → C p
  carried = ind-Plan C (λ x y is. subst (λ z. C (roll-Plan z)) is (carried_layer y))

-- ---- the pairs of each form

module _ (tables : List TableRows) where
  part_table : (p : Plan) → (run_part tables p).table ≡ run_table tables p
  part_table p = carried (run_step tables) (part_step tables) (λ (part : RunPart). part.table) (λ form. refl) p

  pairs_as : (x : Plan-F Plan) → run_pairs tables (roll-Plan x) ≡ run_pairs_at (map-Plan Plan RunPart (run_part tables) x)
  pairs_as x = ap (λ (part : RunPart). part.pairs) (fold-roll-Plan RunPart (part_step tables) x)

  join_pairs : (left right : Plan) (cond : Cond) → run_pairs tables (plan.Join left right cond) ≡ run_pairs tables left + run_pairs tables right + pairs_of (run_table tables left) (run_table tables right)
  unfolding roll-Plan Carrier.roll
  join_pairs left right cond = pairs_as (Plan-F.Join left right cond) ∙ ap₂ (λ t u. run_pairs tables left + run_pairs tables right + pairs_of t u) (part_table left) (part_table right)

  -- a join goes round its left side, and its right side was run
  pub join_counted : (chain new : List PlanStep) (at left right inner next : Plan) (cond : Cond) (made : VTable) (before now most : ℕ) → at ≡ plan.Join left right cond → inner ≡ left → next ≡ left → made ≡ run_table tables right → rewrapped_pairs new (run_table tables inner) ≡ rewrapped_pairs chain (joined_table cond (run_table tables inner) made) + pairs_of (run_table tables inner) made → now ≤ before + run_pairs tables right → before + (rewrapped_pairs chain (run_table tables at) + run_pairs tables at) ≤ most → now + (rewrapped_pairs new (run_table tables next) + run_pairs tables next) ≤ most
  join_counted chain new at left right inner next cond made before now most is i n m put run rest =
      let whole = ap (run_pairs tables) is ∙ join_pairs left right cond in
      let around = ap (rewrapped_pairs chain) (ap₂ (λ p t. joined_table cond (run_table tables p) t) i m ∙ sym (run_join tables left right cond) ∙ ap (run_table tables) (sym is)) in
      let pairs = ap₂ (λ p t. pairs_of (run_table tables p) t) i m in
      let table = ap (λ p. rewrapped_pairs new (run_table tables p)) (n ∙ sym i) in
      let left_pairs = ap (run_pairs tables) n in
      omega (arith, whole, around, pairs, table, left_pairs, put, run, rest)

-- ---- the pairs are within the plan's bound

module _ (laws : Growing) (model : Expr) (tables : List TableRows) (stored : AllByRecursion (λ (table : TableRows). IsStored model table.rows) tables) where
  abbrev paired : Plan → PairedPart
  paired p = fold-Plan PairedPart (pairs_step (rows_source tables) (rows_size tables)) p

  rows_within : (p : Plan) → length (run_part tables p).table.rows ≤ (paired p).part.size.rows
  rows_within p =
      let table = ap (λ (t : VTable). length t.rows) (part_table tables p) in
      let size = ap (λ (s : SizedPart). s.size.rows) (carried (plan_size_step (rows_source tables) (rows_size tables)) (pairs_step (rows_source tables) (rows_size tables)) (λ (part : PairedPart). part.part) (λ form. refl) p) in
      let within = (run_within laws model tables stored p).rows in
      omega (arith, table, size, within)

  abbrev P : Plan → Type 0
  P p = run_pairs tables p ≤ (paired p).pairs

  rolled : (x : Plan-F Plan) → run_pairs_at (map-Plan Plan RunPart (run_part tables) x) ≤ pairs_at (map-Plan Plan PairedPart paired x) → P (roll-Plan x)
  rolled x h =
      let run = pairs_as tables x in
      let bound = ap (λ (part : PairedPart). part.pairs) (fold-roll-Plan PairedPart (pairs_step (rows_source tables) (rows_size tables)) x) in
      omega (arith, run, bound, h)

  both : (l r : (p : Plan) × P p) → run_pairs tables l.0 + run_pairs tables r.0 ≤ (paired l.0).pairs + (paired r.0).pairs
  both l r = let one = l.1 in let other = r.1 in omega (arith, one, other)

  joined : (l r : (p : Plan) × P p) → run_pairs tables l.0 + run_pairs tables r.0 + pairs_of (run_part tables l.0).table (run_part tables r.0).table ≤ (paired l.0).pairs + (paired r.0).pairs + (paired l.0).part.size.rows * (paired r.0).part.size.rows
  joined l r =
      let parts = both l r in
      let pairs = mul-le _ _ _ _ (rows_within l.0) (rows_within r.0) in
      omega (arith, parts, pairs)

  layer : (y : Plan-F ((p : Plan) × P p)) → P (roll-Plan (map-Plan ((p : Plan) × P p) Plan (λ e. e.0) y))
  layer (Plan-F.Scan number) = rolled (Plan-F.Scan number) (omega arith)
  layer (Plan-F.Filter s cond) = rolled (Plan-F.Filter s.0 cond) s.1
  layer (Plan-F.Keep s items) = rolled (Plan-F.Keep s.0 items) s.1
  layer (Plan-F.Join l r cond) = rolled (Plan-F.Join l.0 r.0 cond) (joined l r)
  layer (Plan-F.Union l r) = rolled (Plan-F.Union l.0 r.0) (both l r)
  layer (Plan-F.Except l r) = rolled (Plan-F.Except l.0 r.0) (both l r)
  layer (Plan-F.Rename s alias) = rolled (Plan-F.Rename s.0 alias) s.1
  layer (Plan-F.Choose expr l r) = rolled (Plan-F.Choose expr l.0 r.0) (both l r)
  layer Plan-F.Nothing = rolled Plan-F.Nothing (omega arith)

  pairs_bounded : (p : Plan) → run_pairs tables p ≤ steps_bound tables p
  pairs_bounded = ind-Plan P (λ x y is. subst (λ z. P (roll-Plan z)) is (layer y))

  pub run_counted : (given : List TableRows) (p : Plan) (before now : ℕ) → given ≡ tables → now ≤ before + run_pairs given p → now ≤ before + steps_bound tables p
  run_counted given p before now is run =
      let same = ap (λ ts. run_pairs ts p) is in
      let bound = pairs_bounded p in
      omega (arith, same, run, bound)
