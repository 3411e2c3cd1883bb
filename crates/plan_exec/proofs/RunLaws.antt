-- The table that a plan makes is, in each variant in which the configured plan has a plain type, what that plan means.
use Rattle.std.proofs.Common.{◌≡◌, ◌∙◌, ℕ, ◌==◌, Bool, true, false, ◌||◌, List, [], ◌∷◌, ◌++◌, map, Option, Some, None, if◌then◌else◌, refl, sym, ap, ap₂, subst, true≢false}
use Rattle.std.specs.List.{AllByRecursion, flat_map, list_any}
use Rattle.condition_sat.specs.Admitted.{IsAdmitted}
use Rattle.feature_expr.specs.Satisfaction.{satisfies}
use Rattle.feature_expr.specs.declared.expr.Expr.{Expr}
use Rattle.values.specs.declared.column_name.ColName.{ColName}
use Rattle.plain_relation.specs.Relations.{Column, Relation, SameRelation, absent, has_name}
use Rattle.relational_algebra.specs.Columns.{aliased, among, both_sides, in_order_of, merged, once, repeated}
use Rattle.relational_algebra.specs.Items.{kept, kept_in_order, possible_kept}
use Rattle.relational_algebra.specs.Operations.{aliased_relation, chosen, excepted, filtered, joined, projected, united}
use Rattle.query_meaning.specs.Cases.{Case, case}
use Rattle.query_meaning.specs.declared.ill.IllCase.TheVariants as ill
use Rattle.query_meaning.specs.Meaning.{MeantPart, plan_meaning, plan_meaning_step}
use Rattle.query_meaning.specs.PlainTypes.{PlainType, Ill, Columns, TypedPart, absent_in_items, alias_type, cases_of, chosen_type, columns_differ, columns_in, except_type, join_type, over, over_both, select_type, twice, union_type, unless, where_any}
use Rattle.query_meaning.specs.Plans.{not_asked, plan_possible, plan_possible_step, plan_type, plan_type_step}
use Rattle.query_meaning.specs.declared.plan.Plan.{Plan, fold-Plan, map-Plan, roll-Plan}
use Rattle.query_meaning.specs.declared.plan.Plan.TheFolds.{fold-roll-Plan, ind-Plan}
use Rattle.query_meaning.specs.declared.plan.Plan.TheOpen.{Plan-F}
use Rattle.plan_merges.proofs.AliasLaws.{alias_answers, alias_columns, alias_formed, alias_headings}
use Rattle.plan_tables.proofs.SettleLaws.{headings_under, settled_at, settled_headings, settled_once}
use Rattle.plan_operators.proofs.ChoiceLaws.{left_answers, left_formed, right_answers, right_formed, to_is}
use Rattle.plan_operators.proofs.ExceptLaws.{except_answers, except_formed}
use Rattle.plan_operators.proofs.FilterLaws.{filter_answers, filter_formed}
use Rattle.plan_merges.proofs.JoinLaws.{join_answers, join_formed, wide_at}
use Rattle.plan_merges.proofs.KeepLaws.{kept_none, items_columns, items_headings, keep_answers, keep_formed}
use Rattle.plan_tables.proofs.StandLaws.{columns_at-append}
use Rattle.plan_operators.proofs.UnionLaws.{union_answers, union_formed}
use Rattle.plan_merges.specs.Merges.{aliased_column, aliased_table, columns_of_item, joined_table, kept_table}
use Rattle.plan_exec.specs.RunTables.{empty_table, run_step, run_table, table_by}
use Rattle.plan_exec.specs.Runs.{CanRun}
use Rattle.plan_tables.specs.StoredRows.{IsStored, database_of, relation_by, rows_of, rows_source, source_by}
use Rattle.plan_tables.specs.Tables.{heading, any_of, columns_at, columns_under, headings, once_each}
use Rattle.plan_operators.specs.Operators.{chosen_table, excepted_table, filtered_table, united_table}
use Rattle.plan_tables.specs.declared.rows.TableRows.{TableRows}
use Rattle.std.proofs.lemmas.List.{map-append}
use Rattle.feature_expr.specs.Expressions.{not_of}
use Rattle.vra_syntax.specs.declared.cond.Cond.{Cond}
use Rattle.vra_syntax.specs.declared.items.Item.{Item}
use Rattle.vra_syntax.specs.declared.items.Items.{Items}
use Rattle.vra_syntax.specs.declared.items.Items.TheVariants.{All, Listed}
use Rattle.vtable.specs.Answers.{IsAnswerAt, answer_at, names_are_distinct}
use Rattle.vtable.specs.TableForm.{columns_are_distinct}
use Rattle.vtable.specs.TableForm as form
use Rattle.vtable.specs.declared.table.VColumn.{VColumn}
use Rattle.vtable.specs.declared.table.VTable.{VTable}

-- ---- types without cases

unless_none : (cases : List Case) (columns : List Column) → cases_of (unless cases columns) ≡ [] → (cases ≡ []) × (columns_in (unless cases columns) ≡ columns)
unless_none [] columns h = (refl, refl)
unless_none (first ∷ more) columns h = absurd (cc h)

nil_left : (xs ys : List Case) → xs ++ ys ≡ [] → xs ≡ []
nil_left [] ys h = refl
nil_left (x ∷ xs) ys h = absurd (cc h)

nil_right : (xs ys : List Case) → xs ++ ys ≡ [] → ys ≡ []
nil_right [] ys h = h
nil_right (x ∷ xs) ys h = absurd (cc h)

no_names : (names : List ColName) → map (case ill.Twice) names ≡ [] → names ≡ []
no_names [] h = refl
no_names (name ∷ names) h = absurd (cc h)

distinct_step : (k : Column) (ks : List Column) (has : Bool) → has_name k.name ks ≡ has → repeated (k ∷ ks) ≡ [] → (repeated ks ≡ [] → names_are_distinct ks ≡ true) → names_are_distinct (k ∷ ks) ≡ true
distinct_step k ks true is h rest = absurd (cc (rw is at h))
distinct_step k ks false is h rest = rw is (rest (rw is at h))

none_repeated : (ks : List Column) → repeated ks ≡ [] → names_are_distinct ks ≡ true
none_repeated [] h = refl
none_repeated (k ∷ ks) h = distinct_step k ks (has_name k.name ks) refl h (none_repeated ks)

once_twice : (ks : List Column) → twice ks ≡ [] → names_are_distinct ks ≡ true
once_twice ks h = none_repeated ks (no_names (repeated ks) h)

-- ---- a part

-- a table that is handed in can be
abbrev pub StoredBy : Expr → Option TableRows → Type 0
StoredBy model None = Unit {0}
StoredBy model (Some table) = IsStored model table.rows

-- the table is what the part means, and has the columns of its type
pub record Answered (c : List ℕ) (table : VTable) (type : PlainType) (relation : Relation) : Type 0 where
  pub answer : IsAnswerAt c table
  pub means : answer_at c table ≡ relation
  pub columns : columns_at c table.columns ≡ columns_in type

pub record Fits (c : List ℕ) (table : VTable) (typed : TypedPart) (meant : MeantPart) (possible : List Column) : Type 0 where
  pub one : once_each (headings table.columns) ≡ true
  pub are_possible : possible ≡ headings table.columns
  pub typed_possible : typed.possible ≡ headings table.columns
  pub meant_possible : meant.possible ≡ headings table.columns
  pub answers : cases_of typed.type ≡ [] → Answered c table typed.type meant.relation

module _ (c : List ℕ) where
  filter_fits : (cond : Cond) (t : VTable) (ty : TypedPart) (m : MeantPart) (p : List Column) → Fits c t ty m p → Fits c (filtered_table cond t) (record { possible = ty.possible; type = ty.type }) (record { possible = m.possible; relation = filtered c cond m.relation }) p
  filter_fits cond t ty m p f = record {
    one = f.one;
    are_possible = f.are_possible;
    typed_possible = f.typed_possible;
    meant_possible = f.meant_possible;
    answers = λ h. let a = f.answers h in record {
      answer = filter_formed c cond t a.answer;
      means = filter_answers c cond t a.answer ∙ ap (filtered c cond) a.means;
      columns = a.columns;
    };
  }

  over_type : (form : List Column → PlainType) (t : PlainType) → cases_of (over form t) ≡ [] → (cases_of t ≡ []) × (over form t ≡ form (columns_in t))
  over_type form (Ill first more) h = absurd (cc h)
  over_type form (Columns columns) h = (refl, refl)

  -- what items keep of a source has distinct names
  kept_distinct : (items : List Item) (ks : List Column) → where_any ks (absent_in_items c (Listed items) ks ++ twice (kept c (Listed items) ks) ++ not_asked ks) ≡ [] → names_are_distinct (kept c (Listed items) ks) ≡ true
  kept_distinct items [] h = ap names_are_distinct (kept_none c items)
  kept_distinct items (k ∷ ks) h = once_twice (kept c (Listed items) (k ∷ ks)) (nil_right (absent_in_items c (Listed items) (k ∷ ks)) (twice (kept c (Listed items) (k ∷ ks))) (nil_left (absent_in_items c (Listed items) (k ∷ ks) ++ twice (kept c (Listed items) (k ∷ ks))) (not_asked (k ∷ ks)) h))

  module _ (items : List Item) (t : VTable) where
    pub kept_possible : (q : List Column) → q ≡ headings t.columns → possible_kept (Listed items) q ≡ headings (kept_table (Listed items) t).columns
    kept_possible q h = ap (possible_kept (Listed items)) h ∙ ap once (sym (items_headings items t.columns)) ∙ sym (settled_headings (flat_map (columns_of_item t.columns) items))

    kept_columns : columns_at c (kept_table (Listed items) t).columns ≡ kept_in_order (possible_kept (Listed items) (headings t.columns)) c (Listed items) (columns_at c t.columns)
    kept_columns = settled_at c (flat_map (columns_of_item t.columns) items) ∙ ap₂ in_order_of (ap once (items_headings items t.columns)) (items_columns c items t.columns)

    listed_fits : (ty : TypedPart) (m : MeantPart) (p : List Column) → Fits c t ty m p → Fits c (kept_table (Listed items) t) (record { possible = possible_kept (Listed items) ty.possible; type = over (select_type (possible_kept (Listed items) ty.possible) c (Listed items) not_asked) ty.type }) (record { possible = possible_kept (Listed items) m.possible; relation = projected (possible_kept (Listed items) m.possible) c (Listed items) m.relation }) (possible_kept (Listed items) p)
    listed_fits ty m p f = record {
      one = settled_once (flat_map (columns_of_item t.columns) items);
      are_possible = kept_possible p f.are_possible;
      typed_possible = kept_possible ty.possible f.typed_possible;
      meant_possible = kept_possible m.possible f.meant_possible;
      answers = λ h.
          let o = over_type (select_type (possible_kept (Listed items) ty.possible) c (Listed items) not_asked) ty.type h in
          let a = f.answers o.0 in
          let ks : List Column = columns_in ty.type in
          let u = unless_none (where_any ks (absent_in_items c (Listed items) ks ++ twice (kept c (Listed items) ks) ++ not_asked ks)) (kept_in_order (possible_kept (Listed items) ty.possible) c (Listed items) ks) (sym (ap cases_of o.1) ∙ h) in
          let distinct : names_are_distinct (kept c (Listed items) (columns_at c t.columns)) ≡ true = ap (λ x. names_are_distinct (kept c (Listed items) x)) a.columns ∙ kept_distinct items ks u.0 in
          record {
            answer = keep_formed c items t a.answer distinct;
            means = keep_answers c items t a.answer distinct ∙ ap₂ (λ order r. projected (possible_kept (Listed items) order) c (Listed items) r) (sym f.meant_possible) a.means;
            columns = kept_columns ∙ ap₂ (λ order x. kept_in_order (possible_kept (Listed items) order) c (Listed items) x) (sym f.typed_possible) a.columns ∙ sym u.1 ∙ ap columns_in (sym o.1);
          };
    }

  all_fits : (t : VTable) (ty : TypedPart) (m : MeantPart) (p : List Column) → Fits c t ty m p → Fits c t (record { possible = ty.possible; type = over (select_type ty.possible c All not_asked) ty.type }) (record { possible = m.possible; relation = m.relation }) p
  all_fits t ty m p f = record {
    one = f.one;
    are_possible = f.are_possible;
    typed_possible = f.typed_possible;
    meant_possible = f.meant_possible;
    answers = λ h.
        let o = over_type (select_type ty.possible c All not_asked) ty.type h in
        let a = f.answers o.0 in
        let ks : List Column = columns_in ty.type in
        let u = unless_none (where_any ks (absent_in_items c All ks ++ twice (kept c All ks) ++ not_asked ks)) (kept_in_order ty.possible c All ks) (sym (ap cases_of o.1) ∙ h) in
        record {
          answer = a.answer;
          means = a.means;
          columns = a.columns ∙ sym u.1 ∙ ap columns_in (sym o.1);
        };
  }

  -- ---- two parts

  both_type : (form : List Column → List Column → PlainType) (s t : PlainType) → cases_of (over_both form s t) ≡ [] → (cases_of s ≡ []) × (cases_of t ≡ []) × (over_both form s t ≡ form (columns_in s) (columns_in t))
  both_type form (Ill first more) t h = absurd (cc h)
  both_type form (Columns a) (Ill first more) h = absurd (cc h)
  both_type form (Columns a) (Columns b) h = (refl, refl, refl)

  merged_of : (a b x y : List Column) → a ≡ x → b ≡ y → merged a b ≡ merged x y
  merged_of a b x y e f = ap₂ merged e f

  module _ (l r : VTable) where
    pub both_possible : (a b : List Column) → a ≡ headings l.columns → b ≡ headings r.columns → merged a b ≡ once (headings (l.columns ++ r.columns))
    both_possible a b e f = ap₂ merged e f ∙ ap once (sym (map-append heading l.columns r.columns))

    union_fits : (tl tr : TypedPart) (ml mr : MeantPart) (pl pr : List Column) → Fits c l tl ml pl → Fits c r tr mr pr → Fits c (united_table l r) (record { possible = merged tl.possible tr.possible; type = over_both (union_type (merged tl.possible tr.possible)) tl.type tr.type }) (record { possible = merged ml.possible mr.possible; relation = united (merged ml.possible mr.possible) ml.relation mr.relation }) (merged pl pr)
    union_fits tl tr ml mr pl pr f g = record {
      one = settled_once (l.columns ++ r.columns);
      are_possible = both_possible pl pr f.are_possible g.are_possible ∙ sym (settled_headings (l.columns ++ r.columns));
      typed_possible = both_possible tl.possible tr.possible f.typed_possible g.typed_possible ∙ sym (settled_headings (l.columns ++ r.columns));
      meant_possible = both_possible ml.possible mr.possible f.meant_possible g.meant_possible ∙ sym (settled_headings (l.columns ++ r.columns));
      answers = λ h.
          let o = both_type (union_type (merged tl.possible tr.possible)) tl.type tr.type h in
          let a = f.answers o.0 in
          let b = g.answers o.1 in
          let n = unless_none (columns_differ (columns_in tl.type) (columns_in tr.type)) (in_order_of (merged tl.possible tr.possible) (columns_in tl.type ++ columns_in tr.type)) (sym (ap cases_of o.2) ∙ h) in
          let same : columns_differ (columns_at c l.columns) (columns_at c r.columns) ≡ [] = ap₂ columns_differ a.columns b.columns ∙ n.0 in
          record {
            answer = union_formed c l r f.one g.one a.answer b.answer same;
            means = union_answers c l r f.one g.one a.answer b.answer same ∙ ap₂ (λ order x. united order x (answer_at c r)) (sym (ap₂ merged f.meant_possible g.meant_possible)) a.means ∙ ap (united (merged ml.possible mr.possible) ml.relation) b.means;
            columns = settled_at c (l.columns ++ r.columns)
                ∙ ap₂ in_order_of (sym (both_possible tl.possible tr.possible f.typed_possible g.typed_possible)) (columns_at-append c l.columns r.columns ∙ ap₂ (λ x y. x ++ y) a.columns b.columns)
                ∙ sym n.1 ∙ ap columns_in (sym o.2);
          };
    }

    except_fits : (tl tr : TypedPart) (ml mr : MeantPart) (pl pr : List Column) → Fits c l tl ml pl → Fits c r tr mr pr → Fits c (excepted_table l r) (record { possible = tl.possible; type = over_both except_type tl.type tr.type }) (record { possible = ml.possible; relation = excepted ml.relation mr.relation }) pl
    except_fits tl tr ml mr pl pr f g = record {
      one = f.one;
      are_possible = f.are_possible;
      typed_possible = f.typed_possible;
      meant_possible = f.meant_possible;
      answers = λ h.
          let o = both_type except_type tl.type tr.type h in
          let a = f.answers o.0 in
          let b = g.answers o.1 in
          let n = unless_none (columns_differ (columns_in tl.type) (columns_in tr.type)) (columns_in tl.type) (sym (ap cases_of o.2) ∙ h) in
          let same : columns_differ (columns_at c l.columns) (columns_at c r.columns) ≡ [] = ap₂ columns_differ a.columns b.columns ∙ n.0 in
          record {
            answer = except_formed c l r f.one g.one a.answer b.answer same;
            means = except_answers c l r f.one g.one a.answer b.answer same ∙ ap₂ excepted a.means b.means;
            columns = a.columns ∙ sym n.1 ∙ ap columns_in (sym o.2);
          };
    }

    pub join_possible : (cond : Cond) (a b : List Column) → a ≡ headings l.columns → b ≡ headings r.columns → merged a b ≡ headings (joined_table cond l r).columns
    join_possible cond a b e f =
        ap₂ merged e f
        ∙ ap once (sym (map-append heading (columns_under (any_of r.columns) l.columns) (columns_under (any_of l.columns) r.columns) ∙ ap₂ (λ xs ys. xs ++ ys) (headings_under (any_of r.columns) l.columns) (headings_under (any_of l.columns) r.columns)))
        ∙ sym (settled_headings (columns_under (any_of r.columns) l.columns ++ columns_under (any_of l.columns) r.columns))

    join_columns : (cond : Cond) → columns_at c (joined_table cond l r).columns ≡ in_order_of (headings (joined_table cond l r).columns) (both_sides (columns_at c l.columns) (columns_at c r.columns))
    join_columns cond =
        settled_at c (columns_under (any_of r.columns) l.columns ++ columns_under (any_of l.columns) r.columns)
        ∙ ap₂ in_order_of (sym (settled_headings (columns_under (any_of r.columns) l.columns ++ columns_under (any_of l.columns) r.columns))) (wide_at cond l r c)

    join_fits : (cond : Cond) (tl tr : TypedPart) (ml mr : MeantPart) (pl pr : List Column) → Fits c l tl ml pl → Fits c r tr mr pr → Fits c (joined_table cond l r) (record { possible = merged tl.possible tr.possible; type = over_both (join_type (merged tl.possible tr.possible) not_asked) tl.type tr.type }) (record { possible = merged ml.possible mr.possible; relation = joined (merged ml.possible mr.possible) c cond ml.relation mr.relation }) (merged pl pr)
    join_fits cond tl tr ml mr pl pr f g = record {
      one = settled_once (columns_under (any_of r.columns) l.columns ++ columns_under (any_of l.columns) r.columns);
      are_possible = join_possible cond pl pr f.are_possible g.are_possible;
      typed_possible = join_possible cond tl.possible tr.possible f.typed_possible g.typed_possible;
      meant_possible = join_possible cond ml.possible mr.possible f.meant_possible g.meant_possible;
      answers = λ h.
          let o = both_type (join_type (merged tl.possible tr.possible) not_asked) tl.type tr.type h in
          let a = f.answers o.0 in
          let b = g.answers o.1 in
          let ks : List Column = both_sides (columns_in tl.type) (columns_in tr.type) in
          let n = unless_none (twice ks ++ where_any ks (not_asked ks)) (in_order_of (merged tl.possible tr.possible) ks) (sym (ap cases_of o.2) ∙ h) in
          let distinct : names_are_distinct (both_sides (columns_at c l.columns) (columns_at c r.columns)) ≡ true = ap₂ (λ x y. names_are_distinct (both_sides x y)) a.columns b.columns ∙ once_twice ks (nil_left (twice ks) (where_any ks (not_asked ks)) n.0) in
          record {
            answer = join_formed cond l r c a.answer b.answer distinct;
            means = join_answers cond l r c a.answer b.answer distinct ∙ ap₂ (λ order x. joined order c cond x (answer_at c r)) (sym (ap₂ merged f.meant_possible g.meant_possible)) a.means ∙ ap (joined (merged ml.possible mr.possible) c cond ml.relation) b.means;
            columns = join_columns cond
                ∙ ap₂ in_order_of (sym (join_possible cond tl.possible tr.possible f.typed_possible g.typed_possible)) (ap₂ both_sides a.columns b.columns)
                ∙ sym n.1 ∙ ap columns_in (sym o.2);
          };
    }

    pub chosen_possible : (expr : Expr) (a b : List Column) → a ≡ headings l.columns → b ≡ headings r.columns → merged a b ≡ headings (chosen_table expr l r).columns
    chosen_possible expr a b e f =
        ap₂ merged e f
        ∙ ap once (sym (map-append heading (columns_under expr l.columns) (columns_under (not_of expr) r.columns) ∙ ap₂ (λ xs ys. xs ++ ys) (headings_under expr l.columns) (headings_under (not_of expr) r.columns)))
        ∙ sym (settled_headings (columns_under expr l.columns ++ columns_under (not_of expr) r.columns))

    chosen_answers : (expr : Expr) (tl tr : TypedPart) (ml mr : MeantPart) (pl pr : List Column) → Fits c l tl ml pl → Fits c r tr mr pr → (b : Bool) → satisfies c expr ≡ b → cases_of (chosen_type (merged tl.possible tr.possible) (if b then tl.type else tr.type)) ≡ [] → Answered c (chosen_table expr l r) (chosen_type (merged tl.possible tr.possible) (if b then tl.type else tr.type)) (chosen (merged ml.possible mr.possible) (if b then ml.relation else mr.relation))
    chosen_answers expr tl tr ml mr pl pr f g true is h =
        let o = over_type (λ columns. Columns (in_order_of (merged tl.possible tr.possible) columns)) tl.type h in
        let a = f.answers o.0 in
        record {
          answer = left_formed c expr l r is f.one a.answer;
          means = left_answers c expr l r is f.one a.answer ∙ ap₂ chosen (sym (ap₂ merged f.meant_possible g.meant_possible)) a.means;
          columns = to_is c expr l r true is ∙ ap₂ in_order_of (sym (ap₂ merged f.typed_possible g.typed_possible)) a.columns ∙ ap columns_in (sym o.1);
        }
    chosen_answers expr tl tr ml mr pl pr f g false is h =
        let o = over_type (λ columns. Columns (in_order_of (merged tl.possible tr.possible) columns)) tr.type h in
        let b = g.answers o.0 in
        record {
          answer = right_formed c expr l r is g.one b.answer;
          means = right_answers c expr l r is g.one b.answer ∙ ap₂ chosen (sym (ap₂ merged f.meant_possible g.meant_possible)) b.means;
          columns = to_is c expr l r false is ∙ ap₂ in_order_of (sym (ap₂ merged f.typed_possible g.typed_possible)) b.columns ∙ ap columns_in (sym o.1);
        }

    chosen_fits : (expr : Expr) (tl tr : TypedPart) (ml mr : MeantPart) (pl pr : List Column) → Fits c l tl ml pl → Fits c r tr mr pr → Fits c (chosen_table expr l r) (record { possible = merged tl.possible tr.possible; type = chosen_type (merged tl.possible tr.possible) (if satisfies c expr then tl.type else tr.type) }) (record { possible = merged ml.possible mr.possible; relation = chosen (merged ml.possible mr.possible) (if satisfies c expr then ml.relation else mr.relation) }) (merged pl pr)
    chosen_fits expr tl tr ml mr pl pr f g = record {
      one = settled_once (columns_under expr l.columns ++ columns_under (not_of expr) r.columns);
      are_possible = chosen_possible expr pl pr f.are_possible g.are_possible;
      typed_possible = chosen_possible expr tl.possible tr.possible f.typed_possible g.typed_possible;
      meant_possible = chosen_possible expr ml.possible mr.possible f.meant_possible g.meant_possible;
      answers = chosen_by (satisfies c expr) refl;
    }
      where
        chosen_by : (b : Bool) → satisfies c expr ≡ b → cases_of (chosen_type (merged tl.possible tr.possible) (if satisfies c expr then tl.type else tr.type)) ≡ [] → Answered c (chosen_table expr l r) (chosen_type (merged tl.possible tr.possible) (if satisfies c expr then tl.type else tr.type)) (chosen (merged ml.possible mr.possible) (if satisfies c expr then ml.relation else mr.relation))
        chosen_by b is h =
            subst (λ (x : Bool). Answered c (chosen_table expr l r) (chosen_type (merged tl.possible tr.possible) (if x then tl.type else tr.type)) (chosen (merged ml.possible mr.possible) (if x then ml.relation else mr.relation))) (sym is)
            (chosen_answers expr tl tr ml mr pl pr f g b is (sym (ap (λ (x : Bool). cases_of (chosen_type (merged tl.possible tr.possible) (if x then tl.type else tr.type))) is) ∙ h))

  module _ (alias : List ℕ) (t : VTable) where
    pub alias_possible : (q : List Column) → q ≡ headings t.columns → once (aliased alias q) ≡ headings (aliased_table alias t).columns
    alias_possible q h = ap (λ x. once (aliased alias x)) h ∙ ap once (sym (alias_headings alias t.columns)) ∙ sym (settled_headings (map (aliased_column alias) t.columns))

    alias_fits : (ty : TypedPart) (m : MeantPart) (p : List Column) → Fits c t ty m p → Fits c (aliased_table alias t) (record { possible = once (aliased alias ty.possible); type = over (alias_type (once (aliased alias ty.possible)) alias) ty.type }) (record { possible = once (aliased alias m.possible); relation = aliased_relation (once (aliased alias m.possible)) alias m.relation }) (once (aliased alias p))
    alias_fits ty m p f = record {
      one = settled_once (map (aliased_column alias) t.columns);
      are_possible = alias_possible p f.are_possible;
      typed_possible = alias_possible ty.possible f.typed_possible;
      meant_possible = alias_possible m.possible f.meant_possible;
      answers = λ h.
          let o = over_type (alias_type (once (aliased alias ty.possible)) alias) ty.type h in
          let a = f.answers o.0 in
          let ks : List Column = aliased alias (columns_in ty.type) in
          let n = unless_none (twice ks) (in_order_of (once (aliased alias ty.possible)) ks) (sym (ap cases_of o.1) ∙ h) in
          let distinct : names_are_distinct (aliased alias (columns_at c t.columns)) ≡ true = ap (λ x. names_are_distinct (aliased alias x)) a.columns ∙ once_twice ks n.0 in
          record {
            answer = alias_formed c alias t a.answer distinct;
            means = alias_answers c alias t a.answer distinct ∙ ap₂ (λ order x. aliased_relation (once (aliased alias order)) alias x) (sym f.meant_possible) a.means;
            columns = settled_at c (map (aliased_column alias) t.columns)
                ∙ ap₂ (λ x y. in_order_of (once x) y) (alias_headings alias t.columns ∙ ap (aliased alias) (sym f.typed_possible)) (alias_columns c alias t.columns ∙ ap (aliased alias) a.columns)
                ∙ sym n.1 ∙ ap columns_in (sym o.1);
          };
    }

  -- ---- the stored tables

  pub once_as : (ks : List VColumn) → columns_are_distinct ks ≡ true → once_each (headings ks) ≡ true
  once_as [] h = refl
  once_as (k ∷ ks) h = once_one (list_any (form.same_column k) ks) refl h (once_as ks)
    where
      same_any : (xs : List VColumn) → among (heading k) (headings xs) ≡ list_any (form.same_column k) xs
      same_any [] = refl
      same_any (x ∷ xs) = ap (λ b. form.same_column k x || b) (same_any xs)

      once_one : (has : Bool) → list_any (form.same_column k) ks ≡ has → columns_are_distinct (k ∷ ks) ≡ true → (columns_are_distinct ks ≡ true → once_each (headings ks) ≡ true) → once_each (headings (k ∷ ks)) ≡ true
      once_one true is h rest = absurd (true≢false (sym (rw is at h)))
      once_one false is h rest = rw (same_any ks ∙ is) (rest (rw is at h))

  module _ (model : Expr) (admitted : IsAdmitted model c) where
    table_fits : (table : Option TableRows) → StoredBy model table → Fits c (table_by table) (record { possible = (source_by table).possible; type = Columns ((source_by table).columns_at c) }) (record { possible = (source_by table).possible; relation = relation_by c table }) (source_by table).possible
    table_fits None stored = record {
      one = refl;
      are_possible = refl;
      typed_possible = refl;
      meant_possible = refl;
      answers = λ h. record { answer = record { distinct = refl; whole = refl; filled = refl }; means = refl; columns = refl };
    }
    table_fits (Some table) stored = record {
      one = once_as table.rows.columns stored.distinct;
      are_possible = refl;
      typed_possible = refl;
      meant_possible = refl;
      answers = λ h. record { answer = stored.formed c admitted; means = refl; columns = refl };
    }

    nothing_fits : Fits c empty_table (record { possible = []; type = Columns [] }) (record { possible = []; relation = absent }) []
    nothing_fits = record {
      one = refl;
      are_possible = refl;
      typed_possible = refl;
      meant_possible = refl;
      answers = λ h. record { answer = record { distinct = refl; whole = refl; filled = refl }; means = refl; columns = refl };
    }

    module _ (tables : List TableRows) (all : (number : ℕ) → StoredBy model (rows_of tables number)) where
      abbrev pub typed : Plan → TypedPart
      typed p = fold-Plan TypedPart (plan_type_step c (rows_source tables)) p

      abbrev pub meant : Plan → MeantPart
      meant p = fold-Plan MeantPart (plan_meaning_step c (rows_source tables) (database_of tables c)) p

      abbrev pub P : Plan → Type 0
      P p = Fits c (run_table tables p) (typed p) (meant p) (plan_possible (rows_source tables) p)

      rolled : (x : Plan-F Plan) → Fits c (run_step tables (map-Plan Plan VTable (run_table tables) x)) (plan_type_step c (rows_source tables) (map-Plan Plan TypedPart typed x)) (plan_meaning_step c (rows_source tables) (database_of tables c) (map-Plan Plan MeantPart meant x)) (plan_possible_step (rows_source tables) (map-Plan Plan (List Column) (plan_possible (rows_source tables)) x)) → P (roll-Plan x)
      rolled x f =
          subst (λ (t : VTable). Fits c t (typed (roll-Plan x)) (meant (roll-Plan x)) (plan_possible (rows_source tables) (roll-Plan x))) (sym (fold-roll-Plan VTable (run_step tables) x))
          (subst (λ (ty : TypedPart). Fits c (run_step tables (map-Plan Plan VTable (run_table tables) x)) ty (meant (roll-Plan x)) (plan_possible (rows_source tables) (roll-Plan x))) (sym (fold-roll-Plan TypedPart (plan_type_step c (rows_source tables)) x))
          (subst (λ (m : MeantPart). Fits c (run_step tables (map-Plan Plan VTable (run_table tables) x)) (plan_type_step c (rows_source tables) (map-Plan Plan TypedPart typed x)) m (plan_possible (rows_source tables) (roll-Plan x))) (sym (fold-roll-Plan MeantPart (plan_meaning_step c (rows_source tables) (database_of tables c)) x))
          (subst (λ (q : List Column). Fits c (run_step tables (map-Plan Plan VTable (run_table tables) x)) (plan_type_step c (rows_source tables) (map-Plan Plan TypedPart typed x)) (plan_meaning_step c (rows_source tables) (database_of tables c) (map-Plan Plan MeantPart meant x)) q) (sym (fold-roll-Plan (List Column) (plan_possible_step (rows_source tables)) x)) f)))

      keep_fits : (items : Items) (p : Plan) → P p → Fits c (kept_table items (run_table tables p)) (record { possible = possible_kept items (typed p).possible; type = over (select_type (possible_kept items (typed p).possible) c items not_asked) (typed p).type }) (record { possible = possible_kept items (meant p).possible; relation = projected (possible_kept items (meant p).possible) c items (meant p).relation }) (possible_kept items (plan_possible (rows_source tables) p))
      keep_fits All p f = all_fits (run_table tables p) (typed p) (meant p) (plan_possible (rows_source tables) p) f
      keep_fits (Listed items) p f = listed_fits items (run_table tables p) (typed p) (meant p) (plan_possible (rows_source tables) p) f

      layer : (y : Plan-F ((p : Plan) × P p)) → P (roll-Plan (map-Plan ((p : Plan) × P p) Plan (λ e. e.0) y))
      layer (Plan-F.Scan number) = rolled (Plan-F.Scan number) (table_fits (rows_of tables number) (all number))
      layer (Plan-F.Filter s cond) = rolled (Plan-F.Filter s.0 cond) (filter_fits cond (run_table tables s.0) (typed s.0) (meant s.0) (plan_possible (rows_source tables) s.0) s.1)
      layer (Plan-F.Keep s items) = rolled (Plan-F.Keep s.0 items) (keep_fits items s.0 s.1)
      layer (Plan-F.Join l r cond) = rolled (Plan-F.Join l.0 r.0 cond) (join_fits (run_table tables l.0) (run_table tables r.0) cond (typed l.0) (typed r.0) (meant l.0) (meant r.0) (plan_possible (rows_source tables) l.0) (plan_possible (rows_source tables) r.0) l.1 r.1)
      layer (Plan-F.Union l r) = rolled (Plan-F.Union l.0 r.0) (union_fits (run_table tables l.0) (run_table tables r.0) (typed l.0) (typed r.0) (meant l.0) (meant r.0) (plan_possible (rows_source tables) l.0) (plan_possible (rows_source tables) r.0) l.1 r.1)
      layer (Plan-F.Except l r) = rolled (Plan-F.Except l.0 r.0) (except_fits (run_table tables l.0) (run_table tables r.0) (typed l.0) (typed r.0) (meant l.0) (meant r.0) (plan_possible (rows_source tables) l.0) (plan_possible (rows_source tables) r.0) l.1 r.1)
      layer (Plan-F.Rename s alias) = rolled (Plan-F.Rename s.0 alias) (alias_fits alias (run_table tables s.0) (typed s.0) (meant s.0) (plan_possible (rows_source tables) s.0) s.1)
      layer (Plan-F.Choose expr l r) = rolled (Plan-F.Choose expr l.0 r.0) (chosen_fits (run_table tables l.0) (run_table tables r.0) expr (typed l.0) (typed r.0) (meant l.0) (meant r.0) (plan_possible (rows_source tables) l.0) (plan_possible (rows_source tables) r.0) l.1 r.1)
      layer Plan-F.Nothing = rolled Plan-F.Nothing nothing_fits

      pub run_fits : (p : Plan) → P p
      run_fits = ind-Plan P (λ x y is. subst (λ z. P (roll-Plan z)) is (layer y))

-- ---- each table that is handed in is stored

found_by : (model : Expr) (number : ℕ) (table : TableRows) (tables : List TableRows) (here : Bool) → (table.table == number) ≡ here → IsStored model table.rows → StoredBy model (rows_of tables number) → StoredBy model (rows_of (table ∷ tables) number)
found_by model number table tables true is stored rest = rw is stored
found_by model number table tables false is stored rest = rw is rest

pub all_stored : (model : Expr) (tables : List TableRows) → AllByRecursion (λ (table : TableRows). IsStored model table.rows) tables → (number : ℕ) → StoredBy model (rows_of tables number)
all_stored model [] all number = tt
all_stored model (table ∷ tables) all number = found_by model number table tables (table.table == number) refl all.0 (all_stored model tables all.1 number)

pub same_itself : (one other : Relation) → one ≡ other → SameRelation one other
same_itself one other is = subst (SameRelation one) is (record { columns = λ column. (λ x. x, λ x. x); rows = λ values. (λ x. x, λ x. x) })

-- ---- the columns are the possible ones, whatever the variant

module _ (tables : List TableRows) where
  abbrev Q : Plan → Type 0
  Q p = plan_possible (rows_source tables) p ≡ headings (run_table tables p).columns

  possible_rolled : (x : Plan-F Plan) → plan_possible_step (rows_source tables) (map-Plan Plan (List Column) (plan_possible (rows_source tables)) x) ≡ headings (run_step tables (map-Plan Plan VTable (run_table tables) x)).columns → Q (roll-Plan x)
  possible_rolled x f = fold-roll-Plan (List Column) (plan_possible_step (rows_source tables)) x ∙ f ∙ ap (λ (t : VTable). headings t.columns) (sym (fold-roll-Plan VTable (run_step tables) x))

  scan_possible : (table : Option TableRows) → (source_by table).possible ≡ headings (table_by table).columns
  scan_possible None = refl
  scan_possible (Some table) = refl

  keep_possible : (items : Items) (p : Plan) → Q p → possible_kept items (plan_possible (rows_source tables) p) ≡ headings (kept_table items (run_table tables p)).columns
  keep_possible All p f = f
  keep_possible (Listed items) p f = kept_possible [] items (run_table tables p) (plan_possible (rows_source tables) p) f

  possible_layer : (y : Plan-F ((p : Plan) × Q p)) → Q (roll-Plan (map-Plan ((p : Plan) × Q p) Plan (λ e. e.0) y))
  possible_layer (Plan-F.Scan number) = possible_rolled (Plan-F.Scan number) (scan_possible (rows_of tables number))
  possible_layer (Plan-F.Filter s cond) = possible_rolled (Plan-F.Filter s.0 cond) s.1
  possible_layer (Plan-F.Keep s items) = possible_rolled (Plan-F.Keep s.0 items) (keep_possible items s.0 s.1)
  possible_layer (Plan-F.Join l r cond) = possible_rolled (Plan-F.Join l.0 r.0 cond) (join_possible [] (run_table tables l.0) (run_table tables r.0) cond (plan_possible (rows_source tables) l.0) (plan_possible (rows_source tables) r.0) l.1 r.1)
  possible_layer (Plan-F.Union l r) = possible_rolled (Plan-F.Union l.0 r.0) (both_possible [] (run_table tables l.0) (run_table tables r.0) (plan_possible (rows_source tables) l.0) (plan_possible (rows_source tables) r.0) l.1 r.1 ∙ sym (settled_headings ((run_table tables l.0).columns ++ (run_table tables r.0).columns)))
  possible_layer (Plan-F.Except l r) = possible_rolled (Plan-F.Except l.0 r.0) l.1
  possible_layer (Plan-F.Rename s alias) = possible_rolled (Plan-F.Rename s.0 alias) (alias_possible [] alias (run_table tables s.0) (plan_possible (rows_source tables) s.0) s.1)
  possible_layer (Plan-F.Choose expr l r) = possible_rolled (Plan-F.Choose expr l.0 r.0) (chosen_possible [] (run_table tables l.0) (run_table tables r.0) expr (plan_possible (rows_source tables) l.0) (plan_possible (rows_source tables) r.0) l.1 r.1)
  possible_layer Plan-F.Nothing = possible_rolled Plan-F.Nothing refl

  pub run_possible : (p : Plan) → Q p
  run_possible = ind-Plan Q (λ x y is. subst (λ z. Q (roll-Plan z)) is (possible_layer y))

pub run_answered : (model : Expr) (tables : List TableRows) (p : Plan) → CanRun model tables p → (c : List ℕ) → IsAdmitted model c → Answered c (run_table tables p) (plan_type c (rows_source tables) p) (plan_meaning c (rows_source tables) (database_of tables c) p)
run_answered model tables p can c admitted = (run_fits c model admitted tables (all_stored model tables can.stored) p).answers (can.sound.typed c admitted)
