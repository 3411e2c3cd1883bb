-- Of the columns of a name, all that are there in a variant have one rank.
use Rattle.std.proofs.Common.{◌≡◌, ◌∙◌, ℕ, zero, suc, ◌≤◌, ◌≢◌, ◌==◌, Bool, true, false, not, ◌&&◌, ◌||◌, List, [], ◌∷◌, ◌++◌, map, fold, if◌then◌else◌, refl, sym, ap, ap₂, subst, true≢false, inl, inr, eq-eqb, arith}
use Rattle.std.proofs.lemmas.Bool.{eqb-true}
use Rattle.std.proofs.lemmas.List.Concat.{flat_map-append}
use Rattle.std.specs.List.{flat_map, list_any}
use Rattle.feature_expr.specs.Expressions.{and_of, not_of}
use Rattle.feature_expr.specs.Satisfaction.{satisfies}
use Rattle.feature_expr.specs.declared.expr.Expr.{Expr}
use Rattle.feature_expr.specs.declared.expr.Expr as e
use Rattle.values.specs.declared.column_name.ColName.{ColName}
use Rattle.plain_relation.specs.Relations.{same_name}
use Rattle.row_conditions.proofs.BoolLaws.{and_false, and_first, and_second, and_true, neither, not_true, or_assoc, or_cases, or_false}
use Rattle.row_conditions.proofs.FoldingLaws.{and_holds, holds_False, holds_True, not_holds}
use Rattle.row_conditions.proofs.NameLaws.{name_is}
use Rattle.plan_tables.proofs.SettleLaws.{once_holds}
use Rattle.plan_merges.specs.Merges.{all_ways, last_rank, none_ranked, rank_cond, way_with, ways_of, ways_ranked, with_rank}
use Rattle.plan_merges.specs.declared.way.Ranked.{Ranked}
use Rattle.plan_merges.specs.declared.way.Way.{Way}

-- whether a column of the name is there
abbrev pub named_there : List ℕ → ColName → Ranked → Bool
named_there c name x = satisfies c x.column.cond && same_name x.column.name name

-- no two columns that are there have one name
abbrev pub one_there : List ℕ → List Ranked → Bool
one_there c [] = true
one_there c (x ∷ xs) = if satisfies c x.column.cond then (not (list_any (named_there c x.column.name) xs) && one_there c xs) else one_there c xs

-- the rank of the column of the name that is there
abbrev pub rank_there : List ℕ → ColName → List Ranked → ℕ
rank_there c name [] = 0
rank_there c name (x ∷ xs) = if named_there c name x then x.rank else rank_there c name xs

-- whether it is one of so many ranks, from 1
abbrev is_among_first : ℕ → ℕ → Bool
is_among_first there zero = false
is_among_first there (suc rank) = is_among_first there rank || (there == suc rank)

first_or_zero : (there last : ℕ) → there ≤ last → is_among_first there last ≡ false → there ≡ 0
first_or_zero there zero below h = omega (arith, below)
first_or_zero there (suc last) below h =
    let parts = neither (is_among_first there last) (there == suc last) h in
    first_or_zero there last (lower (there == suc last) refl parts.1) parts.0
  where
    lower : (b : Bool) → (there == suc last) ≡ b → (there == suc last) ≡ false → there ≤ last
    lower true is k = absurd (true≢false (sym is ∙ k))
    lower false is k = omega (arith, below, other k)
      where
        other : (there == suc last) ≡ false → there ≢ suc last
        other k same = true≢false (sym (eq-eqb there (suc last) same) ∙ k)

within_step : (c : List ℕ) (name : ColName) (x : Ranked) (xs : List Ranked) (there same : Bool) → satisfies c x.column.cond ≡ there → same_name x.column.name name ≡ same → rank_there c name xs ≤ last_rank name xs → rank_there c name (x ∷ xs) ≤ last_rank name (x ∷ xs)
within_step c name x xs true true is named rest = rw (is, named) (omega arith)
within_step c name x xs true false is named rest = rw (is, named) rest
within_step c name x xs false true is named rest = rw (is, named) (omega (arith, rest))
within_step c name x xs false false is named rest = rw (is, named) rest

rank_within : (c : List ℕ) (name : ColName) (xs : List Ranked) → rank_there c name xs ≤ last_rank name xs
rank_within c name [] = omega arith
rank_within c name (x ∷ xs) = within_step c name x xs (satisfies c x.column.cond) (same_name x.column.name name) refl refl (rank_within c name xs)

-- the ranks that are there
abbrev pub ranks_there : List ℕ → List Ranked → List ColName → List (ColName × ℕ)
ranks_there c columns names = map (λ name. (name, rank_there c name columns)) names

module _ (c : List ℕ) where
  abbrev ranked_there : ColName → ℕ → Ranked → Bool
  ranked_there name rank x = satisfies c x.column.cond && (same_name x.column.name name && (x.rank == rank))

  rank_step : (name : ColName) (rank : ℕ) (out : Expr) (x : Ranked) (fits : Bool) → (same_name x.column.name name && (x.rank == rank)) ≡ fits → satisfies c (with_rank name rank out x) ≡ (satisfies c out || ranked_there name rank x)
  rank_step name rank out x true is = rw is (once_holds c out x.column.cond ∙ ap (λ b. satisfies c out || b) (sym (and_true (satisfies c x.column.cond))))
  rank_step name rank out x false is = rw is (sym (ap (λ b. satisfies c out || b) (and_false (satisfies c x.column.cond)) ∙ or_false (satisfies c out)))

  rank_from : (name : ColName) (rank : ℕ) (out : Expr) (xs : List Ranked) → satisfies c (fold (with_rank name rank) out xs) ≡ (satisfies c out || list_any (ranked_there name rank) xs)
  rank_from name rank out [] = sym (or_false (satisfies c out))
  rank_from name rank out (x ∷ xs) =
      rank_from name rank (with_rank name rank out x) xs
      ∙ ap (λ b. b || list_any (ranked_there name rank) xs) (rank_step name rank out x (same_name x.column.name name && (x.rank == rank)) refl)
      ∙ or_assoc (satisfies c out) (ranked_there name rank x) (list_any (ranked_there name rank) xs)

  -- where no column of the name is there, none of a rank is
  none_there : (name : ColName) (rank : ℕ) (xs : List Ranked) → list_any (named_there c name) xs ≡ false → list_any (ranked_there name rank) xs ≡ false
  none_there name rank [] h = refl
  none_there name rank (x ∷ xs) h =
      let parts = neither (named_there c name x) (list_any (named_there c name) xs) h in
      both_none (satisfies c x.column.cond) (same_name x.column.name name) (x.rank == rank) (list_any (ranked_there name rank) xs) parts.0 (none_there name rank xs parts.1)
    where
      both_none : (a b d rest : Bool) → (a && b) ≡ false → rest ≡ false → ((a && (b && d)) || rest) ≡ false
      both_none true true d rest h k = absurd (true≢false h)
      both_none true false d rest h k = k
      both_none false b d rest h k = k

  not_zero : (rank : ℕ) (b : Bool) → (0 == suc rank) ≡ b → false ≡ (0 == suc rank)
  not_zero rank false is = sym is
  not_zero rank true is = absurd (omega (arith, eqb-true 0 (suc rank) is))

  found_rank : (x : Ranked) (xs : List Ranked) (name : ColName) (rank : ℕ) (there same : Bool) → satisfies c x.column.cond ≡ there → same_name x.column.name name ≡ same → one_there c (x ∷ xs) ≡ true → (one_there c xs ≡ true → list_any (ranked_there name (suc rank)) xs ≡ (rank_there c name xs == suc rank)) → list_any (ranked_there name (suc rank)) (x ∷ xs) ≡ (rank_there c name (x ∷ xs) == suc rank)
  found_rank x xs name rank false same is named one rest = rw is (rest (rw is at one))
  found_rank x xs name rank true false is named one rest =
      rw (is, named) (rest (and_second (not (list_any (named_there c x.column.name) xs)) _ (rw is at one)))
  found_rank x xs name rank true true is named one rest =
      let lacks : list_any (named_there c x.column.name) xs ≡ false = not_true _ (and_first (not (list_any (named_there c x.column.name) xs)) (one_there c xs) (rw is at one)) in
      let none : list_any (ranked_there name (suc rank)) xs ≡ false = none_there name (suc rank) xs (subst (λ n. list_any (named_there c n) xs ≡ false) (name_is x.column.name name named) lacks) in
      rw (is, named) (ap (λ b. (x.rank == suc rank) || b) none ∙ or_false (x.rank == suc rank))

  rank_found : (xs : List Ranked) (name : ColName) (rank : ℕ) → one_there c xs ≡ true → list_any (ranked_there name (suc rank)) xs ≡ (rank_there c name xs == suc rank)
  rank_found [] name rank one = not_zero rank (0 == suc rank) refl
  rank_found (x ∷ xs) name rank one = found_rank x xs name rank (satisfies c x.column.cond) (same_name x.column.name name) refl refl one (rank_found xs name rank)

  module _ (columns : List Ranked) (one : one_there c columns ≡ true) where
    -- a rank's condition holds where that rank is there
    rank_holds : (name : ColName) (rank : ℕ) → satisfies c (rank_cond name (suc rank) columns) ≡ (rank_there c name columns == suc rank)
    rank_holds name rank = rank_from name (suc rank) e.False columns ∙ ap (λ b. b || list_any (ranked_there name (suc rank)) columns) (holds_False c) ∙ rank_found columns name rank one

    -- what the ways whose conditions hold give
    abbrev pub given_by : {X : Type 0} → (List (ColName × ℕ) → List X) → List Way → List X
    given_by F ways = flat_map (λ (way : Way). if satisfies c way.cond then F way.ranks else []) ways

    none_holds : (name : ColName) (rank : ℕ) → satisfies c (none_ranked name columns rank) ≡ not (is_among_first (rank_there c name columns) rank)
    none_holds name zero = holds_True c
    none_holds name (suc rank) =
        and_holds c (none_ranked name columns rank) (not_of (rank_cond name (suc rank) columns))
        ∙ ap₂ (λ a b. a && b) (none_holds name rank) (not_holds c (rank_cond name (suc rank) columns) ∙ ap not (rank_holds name rank))
        ∙ not_either (is_among_first (rank_there c name columns) rank) (rank_there c name columns == suc rank)
      where
        not_either : (a b : Bool) → (not a && not b) ≡ not (a || b)
        not_either true b = refl
        not_either false b = refl

    -- a rank that is among the first of them isn't a later one
    later : (there rank n : ℕ) → is_among_first there rank ≡ true → rank ≤ n → (there == suc n) ≡ false
    later there zero n h below = absurd (true≢false (sym h))
    later there (suc rank) n h below =
        elim (or_cases (is_among_first there rank) (there == suc rank) h) [
          | inl first ↦ later there rank n first (omega (arith, below))
          | inr here ↦ other (there == suc n) refl (eqb-true there (suc rank) here)
        ]
      where
        other : (b : Bool) → (there == suc n) ≡ b → there ≡ suc rank → (there == suc n) ≡ false
        other false is k = is
        other true is k = absurd (omega (arith, eqb-true there (suc n) is, k, below))

    module _ {X : Type 0} where
      with_here : (F : List (ColName × ℕ) → List X) (cond : Expr) (name : ColName) (rank : ℕ) (way : Way) (here there : Bool) → satisfies c cond ≡ here → satisfies c way.cond ≡ there → (if satisfies c (and_of cond way.cond) then F ((name, rank) ∷ way.ranks) else []) ≡ (if here then (if satisfies c way.cond then F ((name, rank) ∷ way.ranks) else []) else [])
      with_here F cond name rank way true there h k = rw (and_holds c cond way.cond, h) refl
      with_here F cond name rank way false there h k = rw (and_holds c cond way.cond, h) refl

      with_all : (F : List (ColName × ℕ) → List X) (cond : Expr) (name : ColName) (rank : ℕ) (ways : List Way) (here : Bool) → satisfies c cond ≡ here → given_by F (map (way_with cond name rank) ways) ≡ (if here then given_by (λ ranks. F ((name, rank) ∷ ranks)) ways else [])
      with_all F cond name rank [] true h = refl
      with_all F cond name rank [] false h = refl
      with_all F cond name rank (way ∷ ways) true h = ap₂ (λ xs ys. xs ++ ys) (with_here F cond name rank way true (satisfies c way.cond) h refl) (with_all F cond name rank ways true h)
      with_all F cond name rank (way ∷ ways) false h = ap₂ (λ xs ys. xs ++ ys) (with_here F cond name rank way false (satisfies c way.cond) h refl) (with_all F cond name rank ways false h)

      ranks_give : (F : List (ColName × ℕ) → List X) (name : ColName) (ways : List Way) (rank : ℕ) → given_by F (ways_ranked name columns rank ways) ≡ (if is_among_first (rank_there c name columns) rank then given_by (λ ranks. F ((name, rank_there c name columns) ∷ ranks)) ways else [])
      ranks_give F name ways zero = refl
      ranks_give F name ways (suc rank) =
          flat_map-append (λ (way : Way). if satisfies c way.cond then F way.ranks else []) (ways_ranked name columns rank ways) (map (way_with (rank_cond name (suc rank) columns) name (suc rank)) ways)
          ∙ ap₂ (λ xs ys. xs ++ ys) (ranks_give F name ways rank) (with_all F (rank_cond name (suc rank) columns) name (suc rank) ways (rank_there c name columns == suc rank) (rank_holds name rank))
          ∙ one_of (is_among_first (rank_there c name columns) rank) (rank_there c name columns == suc rank) refl refl
        where
          one_of : (first here : Bool) → is_among_first (rank_there c name columns) rank ≡ first → (rank_there c name columns == suc rank) ≡ here → (if first then given_by (λ ranks. F ((name, rank_there c name columns) ∷ ranks)) ways else []) ++ (if here then given_by (λ ranks. F ((name, suc rank) ∷ ranks)) ways else []) ≡ (if (first || here) then given_by (λ ranks. F ((name, rank_there c name columns) ∷ ranks)) ways else [])
          one_of true true f h = absurd (true≢false (sym h ∙ later (rank_there c name columns) rank rank f (omega arith)))
          one_of true false f h = append_nil (given_by (λ ranks. F ((name, rank_there c name columns) ∷ ranks)) ways)
            where
              append_nil : (xs : List X) → xs ++ [] ≡ xs
              append_nil [] = refl
              append_nil (x ∷ xs) = ap (λ ys. x ∷ ys) (append_nil xs)
          one_of false true f h = ap (λ r. given_by (λ ranks. F ((name, r) ∷ ranks)) ways) (sym (eqb-true (rank_there c name columns) (suc rank) h))
          one_of false false f h = refl

      append_nil : (xs : List X) → xs ++ [] ≡ xs
      append_nil [] = refl
      append_nil (x ∷ xs) = ap (λ ys. x ∷ ys) (append_nil xs)

      -- one of a name's ways holds, that of the rank that is there
      name_gives : (F : List (ColName × ℕ) → List X) (name : ColName) (ways : List Way) (first : Bool) → is_among_first (rank_there c name columns) (last_rank name columns) ≡ first → given_by F (ways_of name columns ways) ≡ given_by (λ ranks. F ((name, rank_there c name columns) ∷ ranks)) ways
      name_gives F name ways first h =
          flat_map-append (λ (way : Way). if satisfies c way.cond then F way.ranks else []) (map (way_with (none_ranked name columns (last_rank name columns)) name 0) ways) (ways_ranked name columns (last_rank name columns) ways)
          ∙ ap₂ (λ xs ys. xs ++ ys)
          (with_all F (none_ranked name columns (last_rank name columns)) name 0 ways (not first) (none_holds name (last_rank name columns) ∙ ap not h))
          (ranks_give F name ways (last_rank name columns) ∙ ap (λ (b : Bool). if b then given_by (λ ranks. F ((name, rank_there c name columns) ∷ ranks)) ways else []) h)
          ∙ either_way first h
        where
          either_way : (first : Bool) → is_among_first (rank_there c name columns) (last_rank name columns) ≡ first → (if not first then given_by (λ ranks. F ((name, 0) ∷ ranks)) ways else []) ++ (if first then given_by (λ ranks. F ((name, rank_there c name columns) ∷ ranks)) ways else []) ≡ given_by (λ ranks. F ((name, rank_there c name columns) ∷ ranks)) ways
          either_way true h = refl
          either_way false h =
              append_nil (given_by (λ ranks. F ((name, 0) ∷ ranks)) ways)
              ∙ ap (λ r. given_by (λ ranks. F ((name, r) ∷ ranks)) ways) (sym (first_or_zero (rank_there c name columns) (last_rank name columns) (rank_within c name columns) h))

      pub all_give : (F : List (ColName × ℕ) → List X) (names : List ColName) → given_by F (all_ways names columns) ≡ F (ranks_there c columns names)
      all_give F [] = rw (holds_True c) (append_nil (F []))
      all_give F (name ∷ names) =
          name_gives F name (all_ways names columns) (is_among_first (rank_there c name columns) (last_rank name columns)) refl
          ∙ all_give (λ ranks. F ((name, rank_there c name columns) ∷ ranks)) names
