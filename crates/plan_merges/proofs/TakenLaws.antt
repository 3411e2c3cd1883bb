-- Where of each name the columns of the rank are taken that is there, all columns that are there are taken, and none of
-- one name and kind twice.
use Rattle.std.proofs.Common.{◌≡◌, ◌∙◌, ℕ, ◌+◌, ◌≤◌, ◌<◌, ◌==◌, Bool, true, false, not, ◌||◌, List, [], ◌∷◌, ◌++◌, map, fold, length, Option, Some, None, if◌then◌else◌, refl, sym, ap, subst, true≢false, eq-eqb, arith}
use Rattle.std.proofs.lemmas.Bool.{eqb-true}
use Rattle.std.proofs.lemmas.List.Folds.{list_any-append}
use Rattle.std.specs.List.{list_any}
use Rattle.feature_expr.specs.Satisfaction.{satisfies}
use Rattle.values.specs.declared.column_name.ColName.{ColName}
use Rattle.values.specs.declared.value.Value.{Value}
use Rattle.plain_relation.specs.Relations.{Column, has_name, row_of, same_name}
use Rattle.relational_algebra.specs.Columns.{among, same_column}
use Rattle.row_conditions.proofs.BoolLaws.{and_first, and_second, neither, not_true, or_end, or_start}
use Rattle.row_conditions.proofs.NameLaws.{name_is, name_same}
use Rattle.plan_tables.proofs.MemberLaws.{both, column_is, column_same}
use Rattle.plan_merges.proofs.RankLaws.{named_there, one_there, rank_there, ranks_there}
use Rattle.plan_merges.specs.Merges.{count_same, is_taken, rank_in, ranked_behind, repeated_names, taken, with_name}
use Rattle.plan_merges.specs.declared.way.Ranked.{Ranked}
use Rattle.plan_tables.specs.Tables.{heading, columns_at, headings, once_each}
use Rattle.vtable.specs.Answers.{column_at, fits, names_are_distinct}
use Rattle.vtable.specs.declared.table.VColumn.{VColumn}

-- a fact of each item
abbrev pub AllOf : {X : Type 0} → (X → Type 0) → List X → Type 0
AllOf P [] = Unit {0}
AllOf P (x ∷ xs) = P x × AllOf P xs

-- ---- no two columns that are there have one name

named_is : (c : List ℕ) (name : ColName) (before : List Column) (ks : List VColumn) → list_any (named_there c name) (ranked_behind before ks) ≡ has_name name (columns_at c ks)
named_is c name before [] = refl
named_is c name before (k ∷ ks) = one_named k ks (satisfies c k.cond) refl (named_is c name (before ++ heading k ∷ []) ks) where
  one_named : (k : VColumn) (ks : List VColumn) (there : Bool) → satisfies c k.cond ≡ there → list_any (named_there c name) (ranked_behind (before ++ heading k ∷ []) ks) ≡ has_name name (columns_at c ks) → list_any (named_there c name) (ranked_behind before (k ∷ ks)) ≡ has_name name (columns_at c (k ∷ ks))
  one_named k ks true is rest = rw is (ap (λ b. same_name k.name name || b) rest)
  one_named k ks false is rest = rw is rest

pub one_is : (c : List ℕ) (before : List Column) (ks : List VColumn) → names_are_distinct (columns_at c ks) ≡ true → one_there c (ranked_behind before ks) ≡ true
one_is c before [] h = refl
one_is c before (k ∷ ks) h = one_step k ks (satisfies c k.cond) refl h (one_is c (before ++ heading k ∷ []) ks) where
  one_step : (k : VColumn) (ks : List VColumn) (there : Bool) → satisfies c k.cond ≡ there → names_are_distinct (columns_at c (k ∷ ks)) ≡ true → (names_are_distinct (columns_at c ks) ≡ true → one_there c (ranked_behind (before ++ heading k ∷ []) ks) ≡ true) → one_there c (ranked_behind before (k ∷ ks)) ≡ true
  one_step k ks false is h rest = rw is (rest (rw is at h))
  one_step k ks true is h rest =
      let parts = rw is at h in
      let lacks : has_name k.name (columns_at c ks) ≡ false = not_true _ (and_first (not (has_name k.name (columns_at c ks))) (names_are_distinct (columns_at c ks)) parts) in
      rw (is, named_is c k.name (before ++ heading k ∷ []) ks, lacks) (rest (and_second (not (has_name k.name (columns_at c ks))) _ parts))

-- ---- a column that is there has the rank that is there

module _ (c : List ℕ) where
  abbrev IsThere : List Ranked → Ranked → Type 0
  IsThere whole x = satisfies c x.column.cond ≡ true → rank_there c x.column.name whole ≡ x.rank

  behind_one : (y : Ranked) (ys xs : List Ranked) (there : Bool) → satisfies c y.column.cond ≡ there → (there ≡ true → list_any (named_there c y.column.name) xs ≡ false) → AllOf (IsThere ys) xs → AllOf (IsThere (y ∷ ys)) xs
  behind_one y ys [] there is lacks all = tt
  behind_one y ys (x ∷ xs) false is lacks all = (λ h. rw is (all.0 h), behind_one y ys xs false is (λ h. absurd (true≢false (sym h))) all.1)
  behind_one y ys (x ∷ xs) true is lacks all =
      let parts = neither (named_there c y.column.name x) (list_any (named_there c y.column.name) xs) (lacks refl) in
      (λ h. rw is (other_name (same_name y.column.name x.column.name) refl (not_named h parts.0) (all.0 h)), behind_one y ys xs true is (λ h. parts.1) all.1)
    where
      not_named : satisfies c x.column.cond ≡ true → named_there c y.column.name x ≡ false → same_name x.column.name y.column.name ≡ false
      not_named h k = rw h at k

      other_name : (same : Bool) → same_name y.column.name x.column.name ≡ same → same_name x.column.name y.column.name ≡ false → rank_there c x.column.name ys ≡ x.rank → (if same_name y.column.name x.column.name then y.rank else rank_there c x.column.name ys) ≡ x.rank
      other_name false h k rest = rw h rest
      other_name true h k rest =
          let same : y.column.name ≡ x.column.name = name_is y.column.name x.column.name h in
          absurd (true≢false (sym (subst (λ n. same_name n y.column.name ≡ true) same (name_same y.column.name)) ∙ k))

  pub ranks_found : (xs : List Ranked) → one_there c xs ≡ true → AllOf (IsThere xs) xs
  ranks_found [] h = tt
  ranks_found (x ∷ xs) h = (λ t. rw (t, name_same x.column.name) refl, behind_one x xs xs (satisfies c x.column.cond) refl (lacks (satisfies c x.column.cond) refl h) (ranks_found xs (rest (satisfies c x.column.cond) refl h))) where
    lacks : (there : Bool) → satisfies c x.column.cond ≡ there → one_there c (x ∷ xs) ≡ true → there ≡ true → list_any (named_there c x.column.name) xs ≡ false
    lacks true is h t = not_true _ (and_first (not (list_any (named_there c x.column.name) xs)) (one_there c xs) (rw is at h))
    lacks false is h t = absurd (true≢false (sym t))

    rest : (there : Bool) → satisfies c x.column.cond ≡ there → one_there c (x ∷ xs) ≡ true → one_there c xs ≡ true
    rest true is h = and_second (not (list_any (named_there c x.column.name) xs)) _ (rw is at h)
    rest false is h = rw is at h

-- ---- a column of a higher rank has a repeated name

abbrev IsRepeated : List ColName → Ranked → Type 0
IsRepeated names x = (x.rank == 0) ≡ false → list_any (same_name x.column.name) names ≡ true

grow_step : (names : List ColName) (x : Ranked) (name : ColName) (first has : Bool) → (x.rank == 0) ≡ first → list_any (same_name x.column.name) names ≡ has → list_any (same_name name) names ≡ true → list_any (same_name name) (with_name names x) ≡ true
grow_step names x name true has is k h = rw is h
grow_step names x name false true is k h = rw (is, k) h
grow_step names x name false false is k h = rw (is, k) (list_any-append (same_name name) names (x.column.name ∷ []) ∙ or_start _ _ h)

grows : (names : List ColName) (xs : List Ranked) (name : ColName) → list_any (same_name name) names ≡ true → list_any (same_name name) (fold with_name names xs) ≡ true
grows names [] name h = h
grows names (x ∷ xs) name h = grows (with_name names x) xs name (grow_step names x name (x.rank == 0) (list_any (same_name x.column.name) names) refl refl h)

holds_new : (names : List ColName) (x : Ranked) (has : Bool) → (x.rank == 0) ≡ false → list_any (same_name x.column.name) names ≡ has → list_any (same_name x.column.name) (with_name names x) ≡ true
holds_new names x true is k = rw (is, k) k
holds_new names x false is k = rw (is, k) (list_any-append (same_name x.column.name) names (x.column.name ∷ []) ∙ or_end (list_any (same_name x.column.name) names) _ (or_start _ _ (name_same x.column.name)))

all_repeated : (names : List ColName) (xs : List Ranked) → AllOf (IsRepeated (fold with_name names xs)) xs
all_repeated names [] = tt
all_repeated names (x ∷ xs) = (λ h. grows (with_name names x) xs x.column.name (holds_new names x (list_any (same_name x.column.name) names) h refl), all_repeated (with_name names x) xs)

-- ---- all that is there is taken

module _ (c : List ℕ) (columns : List Ranked) where
  rank_of_name : (names : List ColName) (name : ColName) (has : Bool) → list_any (same_name name) names ≡ has → rank_in (ranks_there c columns names) name ≡ (if has then rank_there c name columns else 0)
  rank_of_name [] name true h = absurd (true≢false (sym h))
  rank_of_name [] name false h = refl
  rank_of_name (n ∷ names) name has h = by_first n names name has (same_name n name) refl h (λ b k. rank_of_name names name b k) where
    by_first : (n : ColName) (names : List ColName) (name : ColName) (has same : Bool) → same_name n name ≡ same → list_any (same_name name) (n ∷ names) ≡ has → ((b : Bool) → list_any (same_name name) names ≡ b → rank_in (ranks_there c columns names) name ≡ (if b then rank_there c name columns else 0)) → rank_in (ranks_there c columns (n ∷ names)) name ≡ (if has then rank_there c name columns else 0)
    by_first n names name has true is h rest =
        let same : n ≡ name = name_is n name is in
        let has_it : has ≡ true = sym h ∙ or_start _ _ (subst (λ q. same_name name q ≡ true) (sym same) (name_same name)) in
        rw (is, has_it) (ap (λ q. rank_there c q columns) same)
    by_first n names name has false is h rest = rw is (rest has (sym (ap (λ b. b || list_any (same_name name) names) (back (same_name name n) refl)) ∙ h))
      where
        back : (b : Bool) → same_name name n ≡ b → same_name name n ≡ false
        back false k = k
        back true k = absurd (true≢false (sym (subst (λ q. same_name q name ≡ true) (name_is name n k) (name_same name)) ∙ is))

  abbrev pub TakenIfThere : List (ColName × ℕ) → Ranked → Type 0
  TakenIfThere ranks x = satisfies c x.column.cond ≡ true → is_taken ranks x ≡ true

  taken_one : (names : List ColName) (x : Ranked) (has first : Bool) → list_any (same_name x.column.name) names ≡ has → (x.rank == 0) ≡ first → IsThere c columns x → IsRepeated names x → TakenIfThere (ranks_there c columns names) x
  taken_one names x true first is k found repeated h = eq-eqb _ _ (sym (found h) ∙ sym (rank_of_name names x.column.name true is))
  taken_one names x false true is k found repeated h = eq-eqb _ _ (eqb-true x.rank 0 k ∙ sym (rank_of_name names x.column.name false is))
  taken_one names x false false is k found repeated h = absurd (true≢false (sym (repeated k) ∙ is))

  taken_all : (names : List ColName) (xs : List Ranked) → AllOf (IsThere c columns) xs → AllOf (IsRepeated names) xs → AllOf (TakenIfThere (ranks_there c columns names)) xs
  taken_all names [] a b = tt
  taken_all names (x ∷ xs) a b = (taken_one names x (list_any (same_name x.column.name) names) (x.rank == 0) refl refl a.0 b.0, taken_all names xs a.1 b.1)

  pub all_taken : one_there c columns ≡ true → AllOf (TakenIfThere (ranks_there c columns (repeated_names columns))) columns
  all_taken one = taken_all (repeated_names columns) columns (ranks_found c columns one) (all_repeated [] columns)

-- ---- so nothing is lost

module _ (c : List ℕ) (ranks : List (ColName × ℕ)) where
  abbrev Takes : Ranked → Type 0
  Takes x = satisfies c x.column.cond ≡ true → is_taken ranks x ≡ true

  columns_step : (before : List Column) (k : VColumn) (ks : List VColumn) (there is_in : Bool) → satisfies c k.cond ≡ there → is_taken ranks (record { column = k; rank = count_same (heading k) before }) ≡ is_in → (there ≡ true → is_in ≡ true) → columns_at c (taken ranks (ranked_behind (before ++ heading k ∷ []) ks) ks) ≡ columns_at c ks → columns_at c (taken ranks (ranked_behind before (k ∷ ks)) (k ∷ ks)) ≡ columns_at c (k ∷ ks)
  columns_step before k ks true true h i takes rest = rw (i, h) (ap (λ xs. heading k ∷ xs) rest)
  columns_step before k ks true false h i takes rest = absurd (true≢false (sym (takes refl)))
  columns_step before k ks false true h i takes rest = rw (i, h) rest
  columns_step before k ks false false h i takes rest = rw (i, h) rest

  pub taken_columns : (before : List Column) (ks : List VColumn) → AllOf Takes (ranked_behind before ks) → columns_at c (taken ranks (ranked_behind before ks) ks) ≡ columns_at c ks
  taken_columns before [] all = refl
  taken_columns before (k ∷ ks) all =
      let x : Ranked = record { column = k; rank = count_same (heading k) before } in
      columns_step before k ks (satisfies c k.cond) (is_taken ranks x) refl refl all.0 (taken_columns (before ++ heading k ∷ []) ks all.1)

  row_step : (before : List Column) (k : VColumn) (ks : List VColumn) (x : Option Value) (xs : List (Option Value)) (there is_in : Bool) → satisfies c k.cond ≡ there → is_taken ranks (record { column = k; rank = count_same (heading k) before }) ≡ is_in → (there ≡ true → is_in ≡ true) → row_of (map (column_at c) (taken ranks (ranked_behind (before ++ heading k ∷ []) ks) ks)) (taken ranks (ranked_behind (before ++ heading k ∷ []) ks) xs) ≡ row_of (map (column_at c) ks) xs → row_of (map (column_at c) (taken ranks (ranked_behind before (k ∷ ks)) (k ∷ ks))) (taken ranks (ranked_behind before (k ∷ ks)) (x ∷ xs)) ≡ row_of (map (column_at c) (k ∷ ks)) (x ∷ xs)
  row_step before k ks None xs true true h i takes rest = rw (i, h) rest
  row_step before k ks (Some v) xs true true h i takes rest = rw (i, h) (ap (λ row. record { name = k.name; value = v } ∷ row) rest)
  row_step before k ks x xs true false h i takes rest = absurd (true≢false (sym (takes refl)))
  row_step before k ks x xs false true h i takes rest = rw (i, h) rest
  row_step before k ks x xs false false h i takes rest = rw (i, h) rest

  pub taken_row : (before : List Column) (ks : List VColumn) (xs : List (Option Value)) → length xs ≡ length ks → AllOf Takes (ranked_behind before ks) → row_of (map (column_at c) (taken ranks (ranked_behind before ks) ks)) (taken ranks (ranked_behind before ks) xs) ≡ row_of (map (column_at c) ks) xs
  taken_row before [] xs long all = refl
  taken_row before (k ∷ ks) [] long all = absurd (omega (arith, long))
  taken_row before (k ∷ ks) (x ∷ xs) long all =
      let y : Ranked = record { column = k; rank = count_same (heading k) before } in
      row_step before k ks x xs (satisfies c k.cond) (is_taken ranks y) refl refl all.0 (taken_row (before ++ heading k ∷ []) ks xs (omega (arith, long)) all.1)

  fits_step : (before : List Column) (k : VColumn) (ks : List VColumn) (x : Option Value) (xs : List (Option Value)) (there is_in : Bool) → satisfies c k.cond ≡ there → is_taken ranks (record { column = k; rank = count_same (heading k) before }) ≡ is_in → (there ≡ true → is_in ≡ true) → fits (map (column_at c) (k ∷ ks)) (x ∷ xs) ≡ true → (fits (map (column_at c) ks) xs ≡ true → fits (map (column_at c) (taken ranks (ranked_behind (before ++ heading k ∷ []) ks) ks)) (taken ranks (ranked_behind (before ++ heading k ∷ []) ks) xs) ≡ true) → fits (map (column_at c) (taken ranks (ranked_behind before (k ∷ ks)) (k ∷ ks))) (taken ranks (ranked_behind before (k ∷ ks)) (x ∷ xs)) ≡ true
  fits_step before k ks None xs true is_in h i takes fit rest = absurd (true≢false (sym (rw h at fit)))
  fits_step before k ks (Some v) xs true true h i takes fit rest =
      let parts = rw h at fit in
      rw (i, h) (both _ _ (and_first _ _ parts) (rest (and_second _ _ parts)))
  fits_step before k ks (Some v) xs true false h i takes fit rest = absurd (true≢false (sym (takes refl)))
  fits_step before k ks x xs false true h i takes fit rest = rw (i, h) (rest (rw h at fit))
  fits_step before k ks x xs false false h i takes fit rest = rw i (rest (rw h at fit))

  pub taken_fits : (before : List Column) (ks : List VColumn) (xs : List (Option Value)) → fits (map (column_at c) ks) xs ≡ true → AllOf Takes (ranked_behind before ks) → fits (map (column_at c) (taken ranks (ranked_behind before ks) ks)) (taken ranks (ranked_behind before ks) xs) ≡ true
  taken_fits before [] [] fit all = refl
  taken_fits before [] (x ∷ xs) fit all = absurd (true≢false (sym fit))
  taken_fits before (k ∷ ks) [] fit all = absurd (no_cell (satisfies c k.cond) refl fit)
    where
      no_cell : (there : Bool) → satisfies c k.cond ≡ there → fits (map (column_at c) (k ∷ ks)) [] ≡ true → ⊥
      no_cell true is h = true≢false (sym (rw is at h))
      no_cell false is h = true≢false (sym (rw is at h))
  taken_fits before (k ∷ ks) (x ∷ xs) fit all =
      let y : Ranked = record { column = k; rank = count_same (heading k) before } in
      fits_step before k ks x xs (satisfies c k.cond) (is_taken ranks y) refl refl all.0 fit (λ f. taken_fits (before ++ heading k ∷ []) ks xs f all.1)

-- ---- and no name and kind is taken twice

counts_more : (key : Column) (before : List Column) (k : Column) → count_same key before ≤ count_same key (before ++ k ∷ [])
counts_more key [] k = counts (same_column key k) refl where
  counts : (b : Bool) → same_column key k ≡ b → 0 ≤ count_same key (k ∷ [])
  counts b is = omega arith
counts_more key (x ∷ xs) k = step (same_column key x) refl (counts_more key xs k) where
  step : (b : Bool) → same_column key x ≡ b → count_same key xs ≤ count_same key (xs ++ k ∷ []) → count_same key (x ∷ xs) ≤ count_same key (x ∷ (xs ++ k ∷ []))
  step true is h = rw is (omega (arith, h))
  step false is h = rw is h

counts_itself : (key : Column) (before : List Column) → count_same key (before ++ key ∷ []) ≡ count_same key before + 1
counts_itself key [] = rw (column_same key) (omega arith)
counts_itself key (x ∷ xs) = step (same_column key x) refl (counts_itself key xs) where
  step : (b : Bool) → same_column key x ≡ b → count_same key (xs ++ key ∷ []) ≡ count_same key xs + 1 → count_same key (x ∷ (xs ++ key ∷ [])) ≡ count_same key (x ∷ xs) + 1
  step true is h = rw is (omega (arith, h))
  step false is h = rw is h

module _ (ranks : List (ColName × ℕ)) where
  later_step : (key : Column) (before : List Column) (k : VColumn) (ks : List VColumn) (same is_in : Bool) → same_column key (heading k) ≡ same → is_taken ranks (record { column = k; rank = count_same (heading k) before }) ≡ is_in → rank_in ranks key.name < count_same key before → among key (headings (taken ranks (ranked_behind (before ++ heading k ∷ []) ks) ks)) ≡ false → among key (headings (taken ranks (ranked_behind before (k ∷ ks)) (k ∷ ks))) ≡ false
  later_step key before k ks true true is i below rest =
      let same : key ≡ heading k = column_is key (heading k) is in
      let rank : count_same (heading k) before ≡ rank_in ranks k.name = eqb-true (count_same (heading k) before) (rank_in ranks k.name) i in
      let less : rank_in ranks k.name < count_same (heading k) before = subst (λ (q : Column). rank_in ranks q.name < count_same q before) same below in
      absurd (omega (arith, rank, less))
  later_step key before k ks false true is i below rest = rw (i, is) rest
  later_step key before k ks same false is i below rest = rw i rest

  not_later : (key : Column) (before : List Column) (ks : List VColumn) → rank_in ranks key.name < count_same key before → among key (headings (taken ranks (ranked_behind before ks) ks)) ≡ false
  not_later key before [] below = refl
  not_later key before (k ∷ ks) below =
      let x : Ranked = record { column = k; rank = count_same (heading k) before } in
      let more = counts_more key before (heading k) in
      later_step key before k ks (same_column key (heading k)) (is_taken ranks x) refl refl below (not_later key (before ++ heading k ∷ []) ks (omega (arith, below, more)))

  once_step : (before : List Column) (k : VColumn) (ks : List VColumn) (is_in : Bool) → is_taken ranks (record { column = k; rank = count_same (heading k) before }) ≡ is_in → once_each (headings (taken ranks (ranked_behind (before ++ heading k ∷ []) ks) ks)) ≡ true → once_each (headings (taken ranks (ranked_behind before (k ∷ ks)) (k ∷ ks))) ≡ true
  once_step before k ks false i rest = rw i rest
  once_step before k ks true i rest =
      let rank : count_same (heading k) before ≡ rank_in ranks k.name = eqb-true (count_same (heading k) before) (rank_in ranks k.name) i in
      let more = counts_itself (heading k) before in
      rw (i, not_later (heading k) (before ++ heading k ∷ []) ks (omega (arith, rank, more))) rest

  pub taken_once : (before : List Column) (ks : List VColumn) → once_each (headings (taken ranks (ranked_behind before ks) ks)) ≡ true
  taken_once before [] = refl
  taken_once before (k ∷ ks) =
      let x : Ranked = record { column = k; rank = count_same (heading k) before } in
      once_step before k ks (is_taken ranks x) refl (taken_once (before ++ heading k ∷ []) ks)
