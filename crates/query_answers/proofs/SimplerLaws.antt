-- Rows under simplified conditions say what the rows said.
use Rattle.std.proofs.Common.{◌≡◌, ℕ, ◌≤◌, ◌||◌, Bool, true, false, List, [], ◌∷◌, ◌++◌, map, filter, length, Option, refl, sym, ◌∙◌, ap, subst, arith, if◌then◌else◌}
use Rattle.std.specs.List.{list_all, list_any}
use Rattle.std.proofs.lemmas.Bool.{or_right}
use Rattle.std.proofs.lemmas.List.Sums.{sum_by-cons}
use Rattle.feature_expr.specs.Expressions.{mentions, weight_of}
use Rattle.feature_expr.specs.Satisfaction.{satisfies}
use Rattle.feature_expr.specs.declared.expr.Expr.{Expr}
use Rattle.plain_relation.specs.Relations.{Relation, SameRelation, relation_of}
use Rattle.plan_exec.specs.Runs.{IsRunOf}
use Rattle.plan_tables.specs.StoredRows.{database_of, rows_source}
use Rattle.plan_tables.specs.StoredRows as stored_rows
use Rattle.plan_tables.specs.declared.rows.TableRows.{TableRows}
use Rattle.query_answers.specs.SimplerRows.{AreSimpler, IsSimpler, PutsSimpler}
use Rattle.query_meaning.specs.Meaning.{plan_meaning}
use Rattle.query_meaning.specs.declared.plan.Plan.{Plan}
use Rattle.simple_conditions.specs.Simpler.{Simplifies}
use Rattle.values.specs.declared.value.Value.{Value}
use Rattle.vtable.specs.Answers.{IsAnswerAt, answer_at, fits, is_whole, places_at}
use Rattle.vtable.specs.TableForm.{rows_mention, rows_weight}
use Rattle.vtable.specs.declared.table.VRow.{VRow}
use Rattle.vtable.specs.declared.table.VTable.{VTable}

-- ---- as they are put

pub simplifies_itself : (x : Expr) → Simplifies x x
simplifies_itself x = record { same = λ c. refl; lighter = omega arith; features = λ i h. h }

-- the condition that `simplified` answers may stand in the other's place
pub simplified_is : (old given new : Expr) → given ≡ old → ((c : List ℕ) → satisfies c new ≡ satisfies c given) → weight_of new ≤ weight_of given → ((i : ℕ) → mentions i new ≡ true → mentions i given ≡ true) → Simplifies old new
simplified_is old given new is same lighter features = subst (λ (x : Expr). Simplifies x new) is (record { same = same; lighter = lighter; features = features })

pub put_itself : (old new : List VRow) (row : VRow) → new ≡ old ++ row ∷ [] → PutsSimpler old new row
put_itself old new row is = record { simpler = row; is = record { cells = refl; cond = simplifies_itself row.cond }; put = is }

pub put_other : (old new : List VRow) (row simpler : VRow) → simpler.cells ≡ row.cells → Simplifies row.cond simpler.cond → new ≡ old ++ simpler ∷ [] → PutsSimpler old new row
put_other old new row simpler cells cond is = record { simpler = simpler; is = record { cells = cells; cond = cond }; put = is }

-- a row under the simplified condition
pub put_simplified : (old new : List VRow) (row : VRow) (before after cond : Expr) → before ≡ row.cond → cond ≡ after → Simplifies before after → new ≡ old ++ record { cells = row.cells; cond = cond } ∷ [] → PutsSimpler old new row
put_simplified old new row before after cond is same simplifies put =
    put_other old new row (record { cells = row.cells; cond = cond }) refl
    (subst (λ (x : Expr). Simplifies x cond) is (subst (λ (x : Expr). Simplifies before x) (sym same) simplifies)) put

simpler_push : (rows ss : List VRow) (row s : VRow) → AreSimpler rows ss → IsSimpler row s → AreSimpler (rows ++ row ∷ []) (ss ++ s ∷ [])
simpler_push [] [] row s so_far is = (is, tt)
simpler_push [] (x ∷ ss) row s so_far is = absurd so_far
simpler_push (x ∷ rows) [] row s so_far is = absurd so_far
simpler_push (x ∷ rows) (y ∷ ss) row s so_far is = (so_far.0, simpler_push rows ss row s so_far.1 is)

pub simpler_more : (rows old new : List VRow) (row : VRow) → AreSimpler rows old → PutsSimpler old new row → AreSimpler (rows ++ row ∷ []) new
simpler_more rows old new row so_far put = subst (AreSimpler (rows ++ row ∷ [])) (sym put.put) (simpler_push rows old row put.simpler so_far put.is)

-- ---- what they say

one_there : (cells cells' : List (Option Value)) (xs ys : List (List (Option Value))) (there : Bool) → cells' ≡ cells → xs ≡ ys → (if there then cells' ∷ xs else xs) ≡ (if there then cells ∷ ys else ys)
one_there cells cells' xs ys true same rest = ap (λ h. h ∷ xs) same ∙ ap (λ zs. cells ∷ zs) rest
one_there cells cells' xs ys false same rest = rest

abbrev cells_of : List VRow → List (List (Option Value))
cells_of rows = map (λ (row : VRow). row.cells) rows

there_cells : (c : List ℕ) (row : VRow) (rows : List VRow) (there : Bool) → cells_of (if there then row ∷ filter (λ (r : VRow). satisfies c r.cond) rows else filter (λ (r : VRow). satisfies c r.cond) rows) ≡ (if there then row.cells ∷ cells_of (filter (λ (r : VRow). satisfies c r.cond) rows) else cells_of (filter (λ (r : VRow). satisfies c r.cond) rows))
there_cells c row rows true = refl
there_cells c row rows false = refl

same_cells_there : (c : List ℕ) (rows ss : List VRow) → AreSimpler rows ss → cells_of (filter (λ (r : VRow). satisfies c r.cond) ss) ≡ cells_of (filter (λ (r : VRow). satisfies c r.cond) rows)
same_cells_there c [] [] are = refl
same_cells_there c [] (s ∷ ss) are = absurd are
same_cells_there c (row ∷ rows) [] are = absurd are
same_cells_there c (row ∷ rows) (s ∷ ss) are =
    there_cells c s ss (satisfies c s.cond)
    ∙ ap (λ b. if b then s.cells ∷ cells_of (filter (λ (r : VRow). satisfies c r.cond) ss) else cells_of (filter (λ (r : VRow). satisfies c r.cond) ss)) (are.0.cond.same c)
    ∙ one_there row.cells s.cells (cells_of (filter (λ (r : VRow). satisfies c r.cond) ss)) (cells_of (filter (λ (r : VRow). satisfies c r.cond) rows)) (satisfies c row.cond) are.0.cells (same_cells_there c rows ss are.1)
    ∙ sym (there_cells c row rows (satisfies c row.cond))

same_length : (rows ss : List VRow) → AreSimpler rows ss → length ss ≡ length rows
same_length [] [] are = refl
same_length [] (s ∷ ss) are = absurd are
same_length (row ∷ rows) [] are = absurd are
same_length (row ∷ rows) (s ∷ ss) are = let rest = same_length rows ss are.1 in omega (arith, rest)

same_whole : (table : VTable) (rows ss : List VRow) → AreSimpler rows ss → list_all (is_whole table) ss ≡ list_all (is_whole table) rows
same_whole table [] [] are = refl
same_whole table [] (s ∷ ss) are = absurd are
same_whole table (row ∷ rows) [] are = absurd are
same_whole table (row ∷ rows) (s ∷ ss) are = rw (are.0.cells, same_whole table rows ss are.1) refl

lighter : (rows ss : List VRow) → AreSimpler rows ss → rows_weight ss ≤ rows_weight rows
lighter [] [] are = omega arith
lighter [] (s ∷ ss) are = absurd are
lighter (row ∷ rows) [] are = absurd are
lighter (row ∷ rows) (s ∷ ss) are =
    let one = are.0.cond.lighter in
    let rest = lighter rows ss are.1 in
    let theirs = sum_by-cons (λ (r : VRow). weight_of r.cond) s ss in
    let mine = sum_by-cons (λ (r : VRow). weight_of r.cond) row rows in
    omega (arith, one, rest, theirs, mine)

either : (a b a' b' : Bool) → (a ≡ true → a' ≡ true) → (b ≡ true → b' ≡ true) → (a || b) ≡ true → (a' || b') ≡ true
either true b a' b' f g h = ap (λ x. x || b') (f refl)
either false b a' b' f g h = or_right a' b' (g h)

no_feature : (i : ℕ) (rows ss : List VRow) → AreSimpler rows ss → rows_mention i ss ≡ true → rows_mention i rows ≡ true
no_feature i [] [] are h = h
no_feature i [] (s ∷ ss) are h = absurd are
no_feature i (row ∷ rows) [] are h = absurd are
no_feature i (row ∷ rows) (s ∷ ss) are h = either (mentions i s.cond) (rows_mention i ss) (mentions i row.cond) (rows_mention i rows) (are.0.cond.features i) (no_feature i rows ss are.1) h

-- ---- so a run with such rows is a run

abbrev pub with_rows : VTable → List VRow → VTable
with_rows table rows = record { columns = table.columns; rows = rows }

module _ (c : List ℕ) (table : VTable) (ss : List VRow) (are : AreSimpler table.rows ss) where
  simpler_relation : answer_at c (with_rows table ss) ≡ answer_at c table
  simpler_relation = ap (λ (rows : List (List (Option Value))). relation_of (places_at c table) rows) (same_cells_there c table.rows ss are)

  simpler_answers : IsAnswerAt c table → IsAnswerAt c (with_rows table ss)
  simpler_answers it = record {
    distinct = it.distinct;
    whole = same_whole table table.rows ss are ∙ it.whole;
    filled = ap (λ (rows : List (List (Option Value))). list_all (fits (places_at c table)) rows) (same_cells_there c table.rows ss are) ∙ it.filled;
  }

pub simpler_run : (model : Expr) (tables : List TableRows) (p : Plan) (table : VTable) (ss : List VRow) → IsRunOf model tables p table → AreSimpler table.rows ss → IsRunOf model tables p (with_rows table ss)
simpler_run model tables p table ss is are =
    let count = same_length table.rows ss are in
    let fewer = is.rows in
    let weight = lighter table.rows ss are in
    let most = is.row_weight in record {
      columns = is.columns;
      formed = λ c admitted. simpler_answers c table ss are (is.formed c admitted);
      means = λ c admitted. subst (λ (r : Relation). SameRelation r (plan_meaning c (rows_source tables) (database_of tables c) p)) (sym (simpler_relation c table ss are)) (is.means c admitted);
      rows = omega (arith, count, fewer);
      row_weight = omega (arith, weight, most);
      features = λ feature h. is.features feature (either (list_any (stored_rows.column_mentions feature) table.columns) (rows_mention feature ss) (list_any (stored_rows.column_mentions feature) table.columns) (rows_mention feature table.rows) (λ m. m) (no_feature feature table.rows ss are) h);
    }
