-- Where an alias makes one of no two names, each column stays a column of its own.
use Rattle.std.proofs.Common.{◌≡◌, ◌∙◌, ℕ, zero, suc, ◌*◌, ◌≤◌, Bool, true, false, List, [], ◌∷◌, map, filter, length, inl, inr, refl, sym, ap, subst, arith, if◌then◌else◌}
use Rattle.std.specs.Prelude.{count_by, fold}
use Rattle.std.specs.List.{list_any}
use Rattle.std.proofs.lemmas.Bool.{and_from, false_from_ne_true, or_cases, or_left, or_right, cases_Bool}
use Rattle.std.proofs.lemmas.List.Sums.{length-filter}
use Rattle.values.specs.declared.column_name.ColName.{ColName}
use Rattle.plain_relation.specs.Relations.{Column, same_name}
use Rattle.relational_algebra.specs.Columns.{aliased, among, prefixed, renamed, same_column}
use Rattle.query_meaning.specs.Bounds.{distinct_names, names_in, ways}
use Rattle.query_meaning.proofs.ColumnSets.{column_decides, distinct, distinct_from, distinct_parts, kind_decides, name_decides}

one_by : (a b : ℕ) → a * b ≡ 1 → (a ≡ 1) × (b ≡ 1)
one_by zero b h = absurd (omega (arith, h))
one_by (suc a) zero h = absurd (omega (arith, h))
one_by (suc a) (suc b) h = (omega (arith, h), omega (arith, h))

abbrev is_in : ColName → List ColName → Bool
is_in name names = list_any (same_name name) names

-- a product of counts that is one is of ones
product_one : (f : ColName → ℕ) (names : List ColName) (acc : ℕ) → fold (λ product name. product * f name) acc names ≡ 1 → (acc ≡ 1) × ((n : ColName) → is_in n names ≡ true → f n ≡ 1)
product_one f [] acc h = (h, λ n in_names. absurd (cc in_names))
product_one f (name ∷ names) acc h =
    let rest = product_one f names (acc * f name) h in
    let here = one_by acc (f name) rest.0 in (
      here.0,
      λ n in_names. elim (or_cases (same_name n name) (is_in n names) in_names) [
        | inl same ↦ ap f ((name_decides n name).0 same) ∙ here.1
        | inr there ↦ rest.1 n there
      ],
    )

is_distinct : (n : ColName) (names : List ColName) → is_in n names ≡ true → is_in n (distinct_names names) ≡ true
is_distinct n [] h = h
is_distinct n (name ∷ names) h = elim (or_cases (same_name n name) (is_in n names) h) [
  | inl same ↦ first (is_in name names) refl same (λ i. is_distinct n names i)
  | inr there ↦ later (is_in name names) (is_distinct n names there)
]
  where
    first : (b : Bool) → is_in name names ≡ b → same_name n name ≡ true → (is_in n names ≡ true → is_in n (distinct_names names) ≡ true) → is_in n (if b then distinct_names names else name ∷ distinct_names names) ≡ true
    first true again same more = more (subst (λ (w : ColName). is_in w names ≡ true) (sym ((name_decides n name).0 same)) again)
    first false again same more = or_left (same_name n name) (is_in n (distinct_names names)) same

    later : (b : Bool) → is_in n (distinct_names names) ≡ true → is_in n (if b then distinct_names names else name ∷ distinct_names names) ≡ true
    later true rest = rest
    later false rest = or_right (same_name n name) (is_in n (distinct_names names)) rest

-- how often a name is among these
abbrev times : ColName → List ColName → ℕ
times name names = length (filter (same_name name) names)

once_more : (b : Bool) (name : ColName) (names : List ColName) → length names ≤ length (if b then name ∷ names else names)
once_more true name names = omega arith
once_more false name names = omega arith

times_once : (n : ColName) (names : List ColName) → is_in n names ≡ true → 1 ≤ times n names
times_once n [] h = absurd (cc h)
times_once n (name ∷ names) h = elim (or_cases (same_name n name) (is_in n names) h) [
  | inl same ↦ rw (same) (omega arith)
  | inr there ↦ (let rest = times_once n names there in let more = once_more (same_name n name) name (filter (same_name n) names) in omega (arith, rest, more))
]

module _ (alias : List ℕ) where
  abbrev all_prefixed : List ColName → List ColName
  all_prefixed names = map (prefixed alias) names

  in_prefixed : (n : ColName) (names : List ColName) → is_in n names ≡ true → is_in (prefixed alias n) (all_prefixed names) ≡ true
  in_prefixed n [] h = h
  in_prefixed n (name ∷ names) h = elim (or_cases (same_name n name) (is_in n names) h) [
    | inl same ↦ or_left (same_name (prefixed alias n) (prefixed alias name)) (is_in (prefixed alias n) (all_prefixed names)) ((name_decides (prefixed alias n) (prefixed alias name)).1 (ap (prefixed alias) ((name_decides n name).0 same)))
    | inr there ↦ or_right (same_name (prefixed alias n) (prefixed alias name)) (is_in (prefixed alias n) (all_prefixed names)) (in_prefixed n names there)
  ]

  -- two names that become one are counted twice
  twice_there : (m n : ColName) (names : List ColName) → is_in m names ≡ true → is_in n names ≡ true → prefixed alias m ≡ prefixed alias n → (m ≡ n → ⊥) → 2 ≤ times (prefixed alias m) (all_prefixed names)
  twice_there m n [] in_m in_n same apart = absurd (cc in_m)
  twice_there m n (name ∷ names) in_m in_n same apart = elim (or_cases (same_name m name) (is_in m names) in_m) [
    | inl m_is ↦ elim (or_cases (same_name n name) (is_in n names) in_n) [
      | inl n_is ↦ absurd (apart ((name_decides m name).0 m_is ∙ sym ((name_decides n name).0 n_is)))
      | inr n_in ↦ counted (ap (prefixed alias) ((name_decides m name).0 m_is)) (subst (λ (w : ColName). is_in w (all_prefixed names) ≡ true) (sym same) (in_prefixed n names n_in))
    ]
    | inr m_there ↦ elim (or_cases (same_name n name) (is_in n names) in_n) [
      | inl n_is ↦ counted (same ∙ ap (prefixed alias) ((name_decides n name).0 n_is)) (in_prefixed m names m_there)
      | inr n_in ↦ (let rest = twice_there m n names m_there n_in same apart in let more = once_more (same_name (prefixed alias m) (prefixed alias name)) (prefixed alias name) (filter (same_name (prefixed alias m)) (all_prefixed names)) in omega (arith, rest, more))
    ]
  ]
    where
      counted : prefixed alias m ≡ prefixed alias name → is_in (prefixed alias m) (all_prefixed names) ≡ true → 2 ≤ times (prefixed alias m) (prefixed alias name ∷ all_prefixed names)
      counted here there = let rest = times_once (prefixed alias m) (all_prefixed names) there in rw ((name_decides (prefixed alias m) (prefixed alias name)).1 here) (omega (arith, rest))

  -- where the product of the counts is one, no two names become one
  apart_names : (names : List ColName) → ways (all_prefixed names) ≡ 1 → (m n : ColName) → is_in m names ≡ true → is_in n names ≡ true → prefixed alias m ≡ prefixed alias n → m ≡ n
  apart_names names h m n in_m in_n same = elim (cases_Bool (same_name m n)) [
    | inl equal ↦ (name_decides m n).0 equal
    | inr other ↦ absurd (clash (twice_there m n names in_m in_n same (λ e. let equal = (name_decides m n).1 e in cc (equal, other))))
  ]
    where
      counts : count_by (same_name (prefixed alias m)) (all_prefixed names) ≡ 1
      counts = (product_one (λ name. count_by (same_name name) (all_prefixed names)) (distinct_names (all_prefixed names)) 1 h).1 (prefixed alias m) (is_distinct (prefixed alias m) (all_prefixed names) (in_prefixed m names in_m))

      clash : 2 ≤ times (prefixed alias m) (all_prefixed names) → ⊥
      clash two = let one = length-filter (same_name (prefixed alias m)) (all_prefixed names) in let is = counts in omega (arith, two, one, is)

  -- of columns of which no two names become one, no two become one

  aliased_among : (k : Column) (ks : List Column) → ((x : Column) → among x ks ≡ true → prefixed alias k.name ≡ prefixed alias x.name → k.name ≡ x.name) → among (renamed (prefixed alias k.name) k) (aliased alias ks) ≡ true → among k ks ≡ true
  aliased_among k [] apart h = h
  aliased_among k (x ∷ ks) apart h = elim (or_cases (same_column (renamed (prefixed alias k.name) k) (renamed (prefixed alias x.name) x)) (among (renamed (prefixed alias k.name) k) (aliased alias ks)) h) [
    | inl same ↦ or_left (same_column k x) (among k ks) (one ((column_decides (renamed (prefixed alias k.name) k) (renamed (prefixed alias x.name) x)).0 same))
    | inr there ↦ or_right (same_column k x) (among k ks) (aliased_among k ks (λ y in_ks. apart y (or_right (same_column y x) (among y ks) in_ks)) there)
  ]
    where
      one : renamed (prefixed alias k.name) k ≡ renamed (prefixed alias x.name) x → same_column k x ≡ true
      one e =
          let names = (name_decides k.name x.name).1 (apart x (or_left (same_column x x) (among x ks) ((column_decides x x).1 refl)) (ap (λ (y : Column). y.name) e)) in
          let kinds = (kind_decides k.kind x.kind).1 (ap (λ (y : Column). y.kind) e) in
          and_from (same_name k.name x.name) _ names kinds

  aliased_distinct : (a : List Column) → ((k x : Column) → among k a ≡ true → among x a ≡ true → prefixed alias k.name ≡ prefixed alias x.name → k.name ≡ x.name) → distinct a ≡ true → distinct (aliased alias a) ≡ true
  aliased_distinct [] apart d = refl
  aliased_distinct (k ∷ ks) apart d =
      let parts = distinct_parts k ks d in
      distinct_from (renamed (prefixed alias k.name) k) (aliased alias ks)
      (false_from_ne_true (among (renamed (prefixed alias k.name) k) (aliased alias ks)) (λ h.
      let again = aliased_among k ks (λ x in_ks. apart k x (or_left (same_column k k) (among k ks) ((column_decides k k).1 refl)) (or_right (same_column x k) (among x ks) in_ks)) h in
      absurd (cc (again, parts.0))))
      (aliased_distinct ks (λ x y in_x in_y. apart x y (or_right (same_column x k) (among x ks) in_x) (or_right (same_column y k) (among y ks) in_y)) parts.1)

  name_in_names : (k : Column) (a : List Column) → among k a ≡ true → is_in k.name (map (λ (x : Column). x.name) a) ≡ true
  name_in_names k [] h = h
  name_in_names k (x ∷ a) h = elim (or_cases (same_column k x) (among k a) h) [
    | inl same ↦ or_left (same_name k.name x.name) (is_in k.name (map (λ (y : Column). y.name) a)) ((name_decides k.name x.name).1 (ap (λ (y : Column). y.name) ((column_decides k x).0 same)))
    | inr there ↦ or_right (same_name k.name x.name) (is_in k.name (map (λ (y : Column). y.name) a)) (name_in_names k a there)
  ]

  pub still_distinct : (a : List Column) → distinct a ≡ true → ways (all_prefixed (names_in a)) ≡ 1 → distinct (aliased alias a) ≡ true
  still_distinct a d h = aliased_distinct a (λ k x in_k in_x same. apart_names (names_in a) h k.name x.name (is_distinct k.name (map (λ (y : Column). y.name) a) (name_in_names k a in_k)) (is_distinct x.name (map (λ (y : Column). y.name) a) (name_in_names x a in_x)) same) d

-- some column has a name
some_name : (k : ColName) (names : List ColName) → 1 ≤ length (distinct_names (k ∷ names))
some_name k names = kept (is_in k names) refl
  where
    present : (names : List ColName) → is_in k names ≡ true → 1 ≤ length (distinct_names names)
    present names h = at_least (distinct_names names) (is_distinct k names h)
      where
        at_least : (ns : List ColName) → is_in k ns ≡ true → 1 ≤ length ns
        at_least [] h = absurd (cc h)
        at_least (n ∷ ns) h = omega arith

    kept : (b : Bool) → is_in k names ≡ b → 1 ≤ length (if b then distinct_names names else k ∷ distinct_names names)
    kept true h = present names h
    kept false h = omega arith

pub some_names : (k : Column) (ks : List Column) → 1 ≤ length (names_in (k ∷ ks))
some_names k ks = some_name k.name (map (λ (x : Column). x.name) ks)
