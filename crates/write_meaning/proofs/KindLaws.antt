-- The values of a write that counts have the kinds of their columns, and an INSERT gives each column that is there.
use Rattle.std.proofs.Common.{◌≡◌, ℕ, ◌==◌, Bool, true, false, cond, not, ◌||◌, if◌then◌else◌, List, [], ◌∷◌, ◌++◌, map, flat_map, length, Option, Some, None, is_none, slice_get, ◌-◌, refl, sym, ◌∙◌, subst, arith, rules, inl, inr, bytes_eq}
use Rattle.std.proofs.lemmas.Grind.{flat_map-append}
use Rattle.std.proofs.lemmas.Slice.Eq.{bytes_eq-Decides}
use Rattle.feature_expr.specs.Names.{among}
use Rattle.values.specs.Value.{kind_of}
use Rattle.values.specs.declared.value.Kind.{Kind}
use Rattle.values.specs.declared.value.Kind.TheVariants as kind
use Rattle.values.specs.declared.value.Value.{Value}
use Rattle.plain_relation.specs.Relations as plain
use Rattle.query_meaning.specs.Cases.{Case, case, no_kind}
use Rattle.query_meaning.specs.declared.ill.IllCase.TheVariants as ill
use Rattle.relational_algebra.specs.Columns.{named, kinds_of}
use Rattle.write_meaning.specs.Members.{Has}
use Rattle.query_meaning.specs.Parameters.{Occurrence, kind_at, without_kind}
use Rattle.write_meaning.specs.PlainWrites.{assigned, literal}
use Rattle.query_meaning.specs.Sources.{table_column}
use Rattle.query_meaning.specs.WriteTyping.{Assignment, assignments_of, misfits, value_cases, value_occurrence}
use Rattle.vra_syntax.specs.declared.cond.Operand.{Operand}
use Rattle.vra_syntax.specs.declared.cond.Operand.TheVariants as operand
use Rattle.vschema.specs.Variants.{bare_name}
use Rattle.vschema.specs.declared.catalog.Column.{Column}
use Rattle.plain_relation.specs.Values.{same_kind}

pub none_first : {X : Type 0} (xs ys : List X) → xs ++ ys ≡ [] → xs ≡ []
none_first [] ys h = refl
none_first (x ∷ xs) ys h = search rules

pub none_second : {X : Type 0} (xs ys : List X) → xs ++ ys ≡ [] → ys ≡ []
none_second [] ys h = h
none_second (x ∷ xs) ys h = search rules

-- no case holds for an assignment's value, and it is no parameter
abbrev pub IsFine : List plain.Column → Assignment → Type 0
IsFine columns one = (value_cases [] columns one ≡ []) × (without_kind [] (value_occurrence columns one) ≡ [])

abbrev pub AreFine : List plain.Column → List Assignment → Type 0
AreFine columns [] = Unit {0}
AreFine columns (one ∷ more) = IsFine columns one × AreFine columns more

pub without_append : (xs ys : List Occurrence) → without_kind [] (xs ++ ys) ≡ without_kind [] xs ++ without_kind [] ys
without_append xs ys = flat_map-append _ xs ys

pub fine_of : (columns : List plain.Column) (given : List Assignment) → flat_map (value_cases [] columns) given ≡ [] → without_kind [] (flat_map (value_occurrence columns) given) ≡ [] → AreFine columns given
fine_of columns [] h k = tt
fine_of columns (one ∷ more) h k =
    let parts = sym (without_append (value_occurrence columns one) (flat_map (value_occurrence columns) more)) ∙ k in (
      (none_first (value_cases [] columns one) (flat_map (value_cases [] columns) more) h, none_first (without_kind [] (value_occurrence columns one)) (without_kind [] (flat_map (value_occurrence columns) more)) parts),
      fine_of columns more (none_second (value_cases [] columns one) (flat_map (value_cases [] columns) more) h) (none_second (without_kind [] (value_occurrence columns one)) (without_kind [] (flat_map (value_occurrence columns) more)) parts),
    )

bytes_self : (xs : List ℕ) → bytes_eq xs xs ≡ true
bytes_self xs = (bytes_eq-Decides xs xs).1 refl

not_false : (b : Bool) → (if b then true else false) ≡ false → b ≡ false
not_false true h = h
not_false false h = refl

asked_none : (why : Case) (b : Bool) → (if b then why ∷ [] else []) ≡ [] → b ≡ false
asked_none why true h = search rules
asked_none why false h = refl

kind_later : (f : Kind → List Case) (x : Column) (rest : List plain.Column) (b : Bool) → flat_map f (kinds_of (cond b (table_column x ∷ rest) rest)) ≡ [] → flat_map f (kinds_of rest) ≡ []
kind_later f x rest true h = none_second (f x.kind) (flat_map f (kinds_of rest)) h
kind_later f x rest false h = h

kind_here : (f : Kind → List Case) (x : Column) (rest : List plain.Column) (b : Bool) → b ≡ true → flat_map f (kinds_of (cond b (table_column x ∷ rest) rest)) ≡ [] → f x.kind ≡ []
kind_here f x rest true is h = none_first (f x.kind) (flat_map f (kinds_of rest)) h
kind_here f x rest false is h = search rules

-- a column's kind is one that is asked
kind_asked : (f : Kind → List Case) (columns : List Column) (column : Column) → Has columns column → flat_map f (kinds_of (named (bare_name column.name) (map table_column columns))) ≡ [] → f column.kind ≡ []
kind_asked f [] column there h = absurd there
kind_asked f (x ∷ columns) column (inl same) h =
    subst (λ (k : Column). f k.kind ≡ []) same
    (kind_here f x (named (bare_name column.name) (map table_column columns)) (bytes_eq x.name column.name) (subst (λ (k : Column). bytes_eq x.name k.name ≡ true) same (bytes_self x.name)) h)
kind_asked f (x ∷ columns) column (inr there) h =
    kind_asked f columns column there (kind_later f x (named (bare_name column.name) (map table_column columns)) (bytes_eq x.name column.name) h)

same_kinds : (b : Bool) → not b ≡ false → b ≡ true
same_kinds true h = refl
same_kinds false h = search rules

-- the value that is given for a column, and that it has its kind
pub record IsGiven (given : List Assignment) (column : Column) : Type 0 where
  pub value : Value
  pub is : assigned given (bare_name column.name) ≡ Some value
  pub kind_is : same_kind (kind_of value) column.kind ≡ true

-- what is given for a column has its kind, if anything is given
abbrev pub HasKind : Option Value → Kind → Type 0
HasKind None kind = Unit {0}
HasKind (Some value) kind = same_kind (kind_of value) kind ≡ true

module _ (columns : List Column) where
  abbrev possible : List plain.Column
  possible = map table_column columns

  abbrev kind_case : Assignment → Kind → List Case
  kind_case one kind = if misfits [] one.value kind then case ill.ValueKind (bare_name one.column) ∷ [] else []

  value_kind : (one : Assignment) (column : Column) → Has columns column → one.column ≡ column.name → IsFine possible one → misfits [] one.value column.kind ≡ false
  value_kind one column there same fine =
      asked_none (case ill.ValueKind (bare_name one.column)) (misfits [] one.value column.kind)
      (kind_asked (kind_case one) columns column there (subst (λ (name : List ℕ). flat_map (kind_case one) (kinds_of (named (bare_name name) possible)) ≡ []) same fine.0))

  literal_kind : (value : Operand) (kind : Kind) → misfits [] value kind ≡ false → HasKind (literal value) kind
  literal_kind (operand.Column name) kind h = tt
  literal_kind (operand.Literal value) kind h = same_kinds (same_kind (kind_of value) kind) h
  literal_kind (operand.Param number) kind h = tt

  given_by : (b : Bool) (value : Operand) (later : Option Value) (kind : Kind) → (b ≡ true → HasKind (literal value) kind) → HasKind later kind → HasKind (if b then literal value else later) kind
  given_by true value later kind h k = h refl
  given_by false value later kind h k = k

  -- what is given for a column has its kind
  pub given_kind : (given : List Assignment) (column : Column) → Has columns column → AreFine possible given → HasKind (assigned given (bare_name column.name)) column.kind
  given_kind [] column there fine = tt
  given_kind (one ∷ more) column there fine =
      given_by (bytes_eq one.column column.name) one.value (assigned more (bare_name column.name)) column.kind
      (λ is. literal_kind one.value column.kind (value_kind one column there ((bytes_eq-Decides one.column column.name).0 is) fine.0))
      (given_kind more column there fine.1)

  some_by : (b : Bool) (value : Operand) (later : Option Value) → (b ≡ true → literal value ≡ None → ⊥) → (b ≡ false → later ≡ None → ⊥) → (if b then literal value else later) ≡ None → ⊥
  some_by true value later h k is = h refl is
  some_by false value later h k is = k refl is

  param_case : (number : ℕ) (found : Option Kind) → found ≡ None → ((if is_none found then no_kind number ∷ [] else []) ++ []) ≡ [] → ⊥
  param_case number None is h = search rules
  param_case number (Some kind) is h = search rules

  none_by : (b : Bool) (found : Option Kind) → found ≡ None → (if b then None else found) ≡ None
  none_by true found h = refl
  none_by false found h = h

  nothing_at : (kinds : List Kind) (n : ℕ) → kinds ≡ [] → slice_get kinds n ≡ None
  nothing_at [] n h = refl
  nothing_at (kind ∷ kinds) n h = search rules

  no_param : (column : List ℕ) (value : Operand) (kind : Kind) → misfits [] value kind ≡ false → without_kind [] (value_occurrence possible (record { column = column; value = value })) ≡ [] → literal value ≡ None → ⊥
  no_param column (operand.Column name) kind h k is = search rules
  no_param column (operand.Literal value) kind h k is = search rules
  no_param column (operand.Param number) kind h k is = param_case number (kind_at [] number) (none_by (number == 0) (slice_get [] (number - 1)) (nothing_at [] (number - 1) refl)) k

  or_by : (a b : Bool) → (a || b) ≡ true → a ≡ false → b ≡ true
  or_by true b h is = search rules
  or_by false b h is = h

  -- a column that is listed is given a value
  pub given_some : (names : List (List ℕ)) (listed : List Operand) (column : Column) → Has columns column → length listed ≡ length names → among column.name names ≡ true → AreFine possible (assignments_of names listed)
      → assigned (assignments_of names listed) (bare_name column.name) ≡ None → ⊥
  given_some [] listed column there same is fine = search rules
  given_some (name ∷ names) [] column there same is fine = search rules
  given_some (name ∷ names) (value ∷ listed) column there same is fine =
      some_by (bytes_eq name column.name) value (assigned (assignments_of names listed) (bare_name column.name))
      (λ here. no_param name value column.kind (value_kind (record { column = name; value = value }) column there ((bytes_eq-Decides name column.name).0 here) fine.0) fine.0.1)
      (λ other. given_some names listed column there (omega (arith, same)) (or_by (bytes_eq name column.name) (among column.name names) is other) fine.1)
