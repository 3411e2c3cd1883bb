-- The tables that a plan scans.
use Rattle.std.proofs.Common.{◌≡◌, ◌≢◌, ℕ, zero, suc, ◌+◌, ◌<◌, ◌≤◌, ◌==◌, Bool, true, false, ◌||◌, length, List, [], ◌∷◌, ◌++◌, map, get_or, set, take, Option, Some, None, option_map, position, refl, sym, ◌∙◌, ap, subst, arith, ◌⊎◌, inl, inr}
use Rattle.std.specs.List.{AllByRecursion, position_from}
use Rattle.std.specs.Prelude.{nat_lt}
use Rattle.std.proofs.Math.Dec.{ltb}
use Rattle.std.proofs.lemmas.Bool.{lt-ltb, ltb-false, ltb-true}
use Rattle.std.proofs.lemmas.Bool.Decides.{eqb_tells}
use Rattle.std.proofs.lemmas.Grind.{take_at_read}
use Rattle.std.proofs.lemmas.List.{append-nil, get_or-set_other, get_or-set_same, get_or_past, length-take-le, map-append}
use Rattle.std.proofs.lemmas.List.Folds.{list_any-append, list_all-append}
use Rattle.std.proofs.lemmas.Iterator.Adapters.{position_from-zero}
use Rattle.std.proofs.lemmas.Option.{slice_get_read}
use Rattle.std.specs.Str.{bytes_eq}
use Rattle.query_meaning.specs.Plans.{ascends, has_number, plan_of, plan_step, scan_of, scans, scans_step}
use Rattle.query_meaning.specs.Sources.{number_of}
use Rattle.query_meaning.specs.Typing.{AreTables, IsTableOf, stored_column}
use Rattle.query_meaning.specs.declared.plan.Plan.{Plan, roll-Plan}
use Rattle.query_meaning.specs.declared.plan.Plan as plan
use Rattle.query_meaning.specs.declared.plan.Plan.TheFolds.{fold-roll-Plan}
use Rattle.query_meaning.specs.declared.plan.Plan.TheOpen.{Plan-F}
use Rattle.query_meaning.specs.declared.typed.TableColumns.{TableColumns}
use Rattle.query_meaning.specs.declared.typed.TypedColumn.{TypedColumn}
use Rattle.query_names.proofs.OnceLaws.{both_true}
use Rattle.query_names.specs.ScannedTables.{AreMarked, AreMarks, all_below, marked_from}
use Rattle.feature_expr.specs.declared.expr.Expr.{Expr}
use Rattle.vra_syntax.specs.declared.cond.Cond.{Cond}
use Rattle.vra_syntax.specs.declared.items.Items.{Items}
use Rattle.vra_syntax.specs.declared.query.Query.{Query, map-Query, roll-Query}
use Rattle.vra_syntax.specs.declared.query.Query.TheFolds.{fold-roll-Query, ind-Query}
use Rattle.vra_syntax.specs.declared.query.Query.TheOpen.{Query-F}
use Rattle.vschema.specs.declared.catalog.Table.{Table}
use denote.Hole.Carrier

-- Numbers among others.

or_false : (b : Bool) → b || false ≡ b
or_false true = refl
or_false false = refl

pub has_more : (numbers : List ℕ) (next number : ℕ) → has_number number (numbers ++ next ∷ []) ≡ has_number number numbers || (next == number)
has_more numbers next number = list_any-append (λ other. other == number) numbers (next ∷ []) ∙ ap (λ (b : Bool). has_number number numbers || b) (or_false (next == number))

apart : (a b : ℕ) → a ≢ b → (a == b) ≡ false
apart a b ne = elim (eqb_tells a b) [ inl same ↦ absurd (ne same.1) | inr other ↦ other.0 ]

or_true : (b : Bool) → b || true ≡ true
or_true true = refl
or_true false = refl

-- one more mark

set_at : (marks : List Bool) (number k : ℕ) → ((number == k) ≡ true) × (number ≡ k) ⊎ (((number == k) ≡ false) × (number ≢ k)) → number < length marks → get_or (set marks number true) k false ≡ get_or marks k false || (number == k)
set_at marks number k (inl same) within = ap (λ j. get_or (set marks number true) j false) (sym same.1) ∙ get_or-set_same marks number true false within ∙ sym (ap (λ (b : Bool). get_or marks k false || b) same.0 ∙ or_true (get_or marks k false))
set_at marks number k (inr other) within = get_or-set_other marks number k true false (λ is. other.1 (sym is)) ∙ sym (ap (λ (b : Bool). get_or marks k false || b) other.0 ∙ or_false (get_or marks k false))

pub mark_set : (marks after : List Bool) (number k : ℕ) → number < length marks → after ≡ set marks number true → get_or after k false ≡ get_or marks k false || (number == k)
mark_set marks after number k within is = ap (λ (ms : List Bool). get_or ms k false) is ∙ set_at marks number k (eqb_tells number k) within

pub mark_kept : (marks : List Bool) (number k : ℕ) → length marks ≤ number → k < length marks → get_or marks k false ≡ get_or marks k false || (number == k)
mark_kept marks number k past within =
    let e : (number == k) ≡ false = apart number k (λ is. omega (arith, is, past, within)) in
    sym (ap (λ (b : Bool). get_or marks k false || b) e ∙ or_false (get_or marks k false))

pub mark_next : (count number next : ℕ) (numbers : List ℕ) (marks after : List Bool) → AreMarks count numbers marks → number < count → get_or after number false ≡ get_or marks number false || (next == number) → get_or after number false ≡ has_number number (numbers ++ next ∷ [])
mark_next count number next numbers marks after are within is = is ∙ ap (λ (b : Bool). b || (next == number)) (are.each number within) ∙ sym (has_more numbers next number)

none_below : (number place : ℕ) (marks : List Bool) → number < place → has_number number (marked_from place marks) ≡ false
none_below number place [] below = refl
none_below number place (true ∷ marks) below =
    let e : (place == number) ≡ false = apart place number (λ is. omega (arith, is, below)) in
    rw e (none_below number (place + 1) marks (omega (arith, below)))
none_below number place (false ∷ marks) below = none_below number (place + 1) marks (omega (arith, below))

marked_at : (marks : List Bool) (place k : ℕ) → has_number (place + k) (marked_from place marks) ≡ get_or marks k false
marked_at [] place k = refl
marked_at (true ∷ marks) place zero =
    let e : place + 0 ≡ place = omega arith in
    let s : (place == place + 0) ≡ true = elim (eqb_tells place (place + 0)) as (λ x. (place == place + 0) ≡ true) [ inl same ↦ same.0 | inr other ↦ absurd (other.1 (sym e)) ] in
    rw s refl
marked_at (false ∷ marks) place zero = none_below (place + 0) (place + 1) marks (omega arith)
marked_at (true ∷ marks) place (suc k) =
    let e : (place == place + suc k) ≡ false = apart place (place + suc k) (λ is. omega (arith, is)) in
    let n : place + suc k ≡ (place + 1) + k = omega arith in
    rw e (ap (λ j. has_number j (marked_from (place + 1) marks)) n ∙ marked_at marks (place + 1) k)
marked_at (false ∷ marks) place (suc k) =
    let n : place + suc k ≡ (place + 1) + k = omega arith in
    ap (λ j. has_number j (marked_from (place + 1) marks)) n ∙ marked_at marks (place + 1) k

ascends_behind : (before place : ℕ) (marks : List Bool) → before < place → ascends (before ∷ marked_from place marks) ≡ true
ascends_behind before place [] below = refl
ascends_behind before place (true ∷ marks) below =
    let e : nat_lt before place ≡ true = lt-ltb before place below in
    rw e (ascends_behind place (place + 1) marks (omega arith))
ascends_behind before place (false ∷ marks) below = ascends_behind before (place + 1) marks (omega (arith, below))

marked_ascend : (place : ℕ) (marks : List Bool) → ascends (marked_from place marks) ≡ true
marked_ascend place [] = refl
marked_ascend place (true ∷ marks) = ascends_behind place (place + 1) marks (omega arith)
marked_ascend place (false ∷ marks) = marked_ascend (place + 1) marks

beyond : (count number : ℕ) (numbers : List ℕ) → all_below count numbers ≡ true → count ≤ number → has_number number numbers ≡ false
beyond count number [] below past = refl
beyond count number (first ∷ numbers) below past =
    let both = both_true (nat_lt first count) (all_below count numbers) below in
    let l : first < count = ltb-true first count both.0 in
    let e : (first == number) ≡ false = apart first number (λ is. omega (arith, is, l, past)) in
    rw e (beyond count number numbers both.1 past)

same_marked : (count number : ℕ) (numbers : List ℕ) (marks : List Bool) → AreMarks count numbers marks → all_below count numbers ≡ true → (number < count) ⊎ (count ≤ number) → get_or marks number false ≡ has_number number numbers
same_marked count number numbers marks are below (inl within) = are.each number within
same_marked count number numbers marks are below (inr past) = get_or_past marks number false (let f = are.full in omega (arith, f, past)) ∙ sym (beyond count number numbers below past)

split_by : (a b : ℕ) (t : Bool) → ltb a b ≡ t → (a < b) ⊎ (b ≤ a)
split_by a b true is = inl (ltb-true a b is)
split_by a b false is = inr (ltb-false a b is)

split : (a b : ℕ) → (a < b) ⊎ (b ≤ a)
split a b = split_by a b (ltb a b) refl

same_scanned : (tables : List Table) (p : Plan) (numbers : List ℕ) (marks : List Bool) (number : ℕ) → numbers ≡ scans p → all_below (length tables) (scans p) ≡ true → AreMarks (length tables) numbers marks → has_number number (marked_from 0 marks) ≡ has_number number (scans p)
same_scanned tables p numbers marks number listed below marked =
    let z : number ≡ 0 + number = omega arith in
    let a : has_number number (marked_from 0 marks) ≡ get_or marks number false = ap (λ k. has_number k (marked_from 0 marks)) z ∙ marked_at marks 0 number in
    let b : get_or marks number false ≡ has_number number numbers = same_marked (length tables) number numbers marks marked (ap (all_below (length tables)) listed ∙ below) (split number (length tables)) in
    a ∙ b ∙ ap (has_number number) listed

pub are_tables : (tables : List Table) (p : Plan) (numbers : List ℕ) (marks : List Bool) (them : List TableColumns) → numbers ≡ scans p → all_below (length tables) (scans p) ≡ true → AreMarks (length tables) numbers marks → AreMarked tables marks them → AreTables tables p them
are_tables tables p numbers marks them listed below marked are = record {
  scanned = record {
    ascending = ap ascends are.numbers ∙ marked_ascend 0 marks;
    same = λ number. ap (has_number number) are.numbers ∙ same_scanned tables p numbers marks number listed below marked;
  };
  stored = are.stored;
}

-- One more table.

pub marked_more : (marks : List Bool) (place : ℕ) (mark : Bool) → marked_from place (marks ++ mark ∷ []) ≡ marked_from place marks ++ marked_from (place + length marks) (mark ∷ [])
marked_more [] place mark = let e : place + 0 ≡ place = omega arith in ap (λ p. marked_from p (mark ∷ [])) (sym e)
marked_more (true ∷ marks) place mark =
    let e : (place + 1) + length marks ≡ place + length (true ∷ marks) = omega arith in
    ap (λ (xs : List ℕ). place ∷ xs) (marked_more marks (place + 1) mark ∙ ap (λ p. marked_from (place + 1) marks ++ marked_from p (mark ∷ [])) e)
marked_more (false ∷ marks) place mark =
    let e : (place + 1) + length marks ≡ place + length (false ∷ marks) = omega arith in
    marked_more marks (place + 1) mark ∙ ap (λ p. marked_from (place + 1) marks ++ marked_from p (mark ∷ [])) e

all_push : (P : TableColumns → Type 0) (them : List TableColumns) (it : TableColumns) → AllByRecursion P them → P it → AllByRecursion P (them ++ it ∷ [])
all_push P [] it all this = (this, tt)
all_push P (first ∷ them) it all this = (all.0, all_push P them it all.1 this)

taken_more : (marks : List Bool) (place : ℕ) (mark : Bool) → place < length marks → get_or marks place false ≡ mark → marked_from 0 (take (place + 1) marks) ≡ marked_from 0 (take place marks) ++ marked_from place (mark ∷ [])
taken_more marks place mark within here =
    let t : take (place + 1) marks ≡ take place marks ++ mark ∷ [] = (take_at_read marks place false within).1 ∙ ap (λ (x : Bool). take place marks ++ x ∷ []) here in
    let n : 0 + length (take place marks) ≡ place = let l = length-take-le place marks (let w : place ≤ length marks = omega (arith, within) in w) in omega (arith, l) in
    ap (marked_from 0) t ∙ marked_more (take place marks) 0 mark ∙ ap (λ p. marked_from 0 (take place marks) ++ marked_from p (mark ∷ [])) n

-- a table that is marked is added with its columns
pub marked_next : (tables : List Table) (marks : List Bool) (place : ℕ) (table : Table) (columns : List TypedColumn) (them after : List TableColumns) → place < length tables → length marks ≡ length tables → table ≡ get_or tables place table → get_or marks place false ≡ true → AreMarked tables (take place marks) them → columns ≡ map (stored_column table) table.columns → after ≡ them ++ record { table = place; columns = columns } ∷ [] → AreMarked tables (take (place + 1) marks) after
marked_next tables marks place table columns them after within full here marked are made added = record {
  numbers =
      ap (map (λ (it : TableColumns). it.table)) added
      ∙ map-append (λ (it : TableColumns). it.table) them (record { table = place; columns = columns } ∷ [])
      ∙ ap (λ (xs : List ℕ). xs ++ place ∷ []) are.numbers
      ∙ sym (taken_more marks place true (omega (arith, within, full)) marked);
  stored = subst (AllByRecursion (IsTableOf tables)) (sym added) (all_push (IsTableOf tables) them (record { table = place; columns = columns }) are.stored (ap (option_map (λ (t : Table). map (stored_column t) t.columns)) (slice_get_read tables (length tables) place table refl within here) ∙ ap (λ (cs : List TypedColumn). Some cs) (sym made)));
}

pub unmarked_next : (tables : List Table) (marks : List Bool) (place : ℕ) (them : List TableColumns) → place < length tables → length marks ≡ length tables → get_or marks place false ≡ false → AreMarked tables (take place marks) them → AreMarked tables (take (place + 1) marks) them
unmarked_next tables marks place them within full marked are = record {
  numbers = are.numbers ∙ sym (taken_more marks place false (omega (arith, within, full)) marked ∙ append-nil (marked_from 0 (take place marks)));
  stored = are.stored;
}

-- A query's plan scans tables of the catalogue.

placed_at : (p : Table → Bool) (table : Table) (tables : List Table) (from n : ℕ) (b : Bool) → p table ≡ b → position_from p from (table ∷ tables) ≡ Some n → (position_from p (from + 1) tables ≡ Some n → n < (from + 1) + length tables) → n < from + length (table ∷ tables)
placed_at p table tables from n true here is more = let e : Some from ≡ Some n = rw here at is in let f : from ≡ n = cc e in omega (arith, f)
placed_at p table tables from n false here is more = let e : position_from p (from + 1) tables ≡ Some n = rw here at is in let m = more e in omega (arith, m)

placed_from : (p : Table → Bool) (tables : List Table) (from n : ℕ) → position_from p from tables ≡ Some n → n < from + length tables
placed_from p [] from n is = absurd (cc is)
placed_from p (table ∷ tables) from n is = placed_at p table tables from n (p table) refl is (λ more. placed_from p tables (from + 1) n more)

placed : (p : Table → Bool) (tables : List Table) (n : ℕ) → position p tables ≡ Some n → n < length tables
placed p tables n is = let b = placed_from p tables 0 n (sym (position_from-zero p tables) ∙ is) in omega (arith, b)

module _ (tables : List Table) where
  abbrev P : Query → Type 0
  P query = all_below (length tables) (scans (plan_of tables query)) ≡ true

  rolled : (x : Query-F Query) → all_below (length tables) (scans (plan_step tables (map-Query Query Plan (plan_of tables) x))) ≡ true → P (roll-Query x)
  rolled x f = ap (λ (p : Plan). all_below (length tables) (scans p)) (fold-roll-Query Plan (plan_step tables) x) ∙ f

  of_number : (name : List ℕ) (number : Option ℕ) → number_of tables name ≡ number → all_below (length tables) (scans (scan_of number)) ≡ true
  unfolding roll-Plan Carrier.roll
  of_number name None is = ap (all_below (length tables)) (fold-roll-Plan (List ℕ) scans_step Plan-F.Nothing)
  of_number name (Some n) is =
      let e : nat_lt n (length tables) ≡ true = lt-ltb n (length tables) (placed (λ (t : Table). bytes_eq t.name name) tables n is) in
      ap (all_below (length tables)) (fold-roll-Plan (List ℕ) scans_step (Plan-F.Scan n)) ∙ rw e refl

  both : (left right : Plan) (whole : Plan) → scans whole ≡ scans left ++ scans right → all_below (length tables) (scans left) ≡ true → all_below (length tables) (scans right) ≡ true → all_below (length tables) (scans whole) ≡ true
  both left right whole is l r = ap (all_below (length tables)) is ∙ list_all-append (λ number. nat_lt number (length tables)) (scans left) (scans right) ∙ rw (l, r) refl

  scans_keep : (items : Items) (source : Plan) (cond : Cond) → scans (plan.Keep (plan.Filter source cond) items) ≡ scans source
  unfolding roll-Plan Carrier.roll
  scans_keep items source cond = fold-roll-Plan (List ℕ) scans_step (Plan-F.Keep (plan.Filter source cond) items) ∙ fold-roll-Plan (List ℕ) scans_step (Plan-F.Filter source cond)

  scans_join : (left right : Plan) (cond : Cond) → scans (plan.Join left right cond) ≡ scans left ++ scans right
  unfolding roll-Plan Carrier.roll
  scans_join left right cond = fold-roll-Plan (List ℕ) scans_step (Plan-F.Join left right cond)

  scans_union : (left right : Plan) → scans (plan.Union left right) ≡ scans left ++ scans right
  unfolding roll-Plan Carrier.roll
  scans_union left right = fold-roll-Plan (List ℕ) scans_step (Plan-F.Union left right)

  scans_except : (left right : Plan) → scans (plan.Except left right) ≡ scans left ++ scans right
  unfolding roll-Plan Carrier.roll
  scans_except left right = fold-roll-Plan (List ℕ) scans_step (Plan-F.Except left right)

  scans_rename : (source : Plan) (name : List ℕ) → scans (plan.Rename source name) ≡ scans source
  unfolding roll-Plan Carrier.roll
  scans_rename source name = fold-roll-Plan (List ℕ) scans_step (Plan-F.Rename source name)

  scans_choose : (expr : Expr) (left right : Plan) → scans (plan.Choose expr left right) ≡ scans left ++ scans right
  unfolding roll-Plan Carrier.roll
  scans_choose expr left right = fold-roll-Plan (List ℕ) scans_step (Plan-F.Choose expr left right)

  scans_nothing : scans plan.Nothing ≡ []
  unfolding roll-Plan Carrier.roll
  scans_nothing = fold-roll-Plan (List ℕ) scans_step Plan-F.Nothing

  layer : (y : Query-F ((query : Query) × P query)) → P (roll-Query (map-Query ((query : Query) × P query) Query (λ e. e.0) y))
  layer (Query-F.Table name) = rolled (Query-F.Table name) (of_number name (number_of tables name) refl)
  layer (Query-F.Select items s cond) = rolled (Query-F.Select items s.0 cond) (ap (all_below (length tables)) (scans_keep items (plan_of tables s.0) cond) ∙ s.1)
  layer (Query-F.Join l r cond) = rolled (Query-F.Join l.0 r.0 cond) (both (plan_of tables l.0) (plan_of tables r.0) (plan.Join (plan_of tables l.0) (plan_of tables r.0) cond) (scans_join (plan_of tables l.0) (plan_of tables r.0) cond) l.1 r.1)
  layer (Query-F.Union l r) = rolled (Query-F.Union l.0 r.0) (both (plan_of tables l.0) (plan_of tables r.0) (plan.Union (plan_of tables l.0) (plan_of tables r.0)) (scans_union (plan_of tables l.0) (plan_of tables r.0)) l.1 r.1)
  layer (Query-F.Except l r) = rolled (Query-F.Except l.0 r.0) (both (plan_of tables l.0) (plan_of tables r.0) (plan.Except (plan_of tables l.0) (plan_of tables r.0)) (scans_except (plan_of tables l.0) (plan_of tables r.0)) l.1 r.1)
  layer (Query-F.Alias s name) = rolled (Query-F.Alias s.0 name) (ap (all_below (length tables)) (scans_rename (plan_of tables s.0) name) ∙ s.1)
  layer (Query-F.Choice expr l r) = rolled (Query-F.Choice expr l.0 r.0) (both (plan_of tables l.0) (plan_of tables r.0) (plan.Choose expr (plan_of tables l.0) (plan_of tables r.0)) (scans_choose expr (plan_of tables l.0) (plan_of tables r.0)) l.1 r.1)
  layer Query-F.Empty = rolled Query-F.Empty (ap (all_below (length tables)) scans_nothing)

  pub scans_known : (query : Query) → P query
  scans_known = ind-Query P (λ x y is. subst (λ z. P (roll-Query z)) is (layer y))

-- the mark of one more number of a list
pub marked_on : (count place : ℕ) (numbers : List ℕ) (marks after : List Bool) → place < length numbers → AreMarks count (take place numbers) marks → length after ≡ length marks → ((k : ℕ) → k < length marks → get_or after k false ≡ get_or marks k false || (get_or numbers place 0 == k)) → AreMarks count (take (place + 1) numbers) after
marked_on count place numbers marks after within are same each = record {
  full = same ∙ are.full;
  each = λ k below.
      let w : k < length marks = let f = are.full in omega (arith, below, f) in
      mark_next count k (get_or numbers place 0) (take place numbers) marks after are below (each k w) ∙ ap (has_number k) (sym (take_at_read numbers place 0 within).1);
}

pub unmarked_are : (count : ℕ) (marks : List Bool) → length marks ≡ count → ((k : ℕ) → get_or marks k false ≡ false) → AreMarks count [] marks
unmarked_are count marks full none = record { full = full; each = λ k below. none k }

at_end : (marks : List Bool) (k : ℕ) → ((j : ℕ) → get_or marks j false ≡ false) → get_or (marks ++ false ∷ []) k false ≡ false
at_end [] zero none = refl
at_end [] (suc k) none = refl
at_end (mark ∷ marks) zero none = none 0
at_end (mark ∷ marks) (suc k) none = at_end marks k (λ j. none (suc j))

pub pushed_unmarked : (marks after : List Bool) (k : ℕ) → ((j : ℕ) → get_or marks j false ≡ false) → after ≡ marks ++ false ∷ [] → get_or after k false ≡ false
pushed_unmarked marks after k none is = ap (λ (ms : List Bool). get_or ms k false) is ∙ at_end marks k none

pub plan_known : (tables : List Table) (query : Query) (p : Plan) → p ≡ plan_of tables query → all_below (length tables) (scans p) ≡ true
plan_known tables query p is = ap (λ (x : Plan). all_below (length tables) (scans x)) is ∙ scans_known tables query
