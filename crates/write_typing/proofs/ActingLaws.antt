-- The variants in which a write acts, and what its typing over a table says of it over all tables.
use Rattle.std.proofs.Common.{◌≡◌, ℕ, Bool, true, false, not, List, [], ◌∷◌, ◌++◌, map, Option, Some, None, refl, sym, ◌∙◌, ap, subst, if◌then◌else◌}
use Rattle.std.specs.Option.{option_map}
use Rattle.std.specs.List.{flat_map}
use Rattle.std.proofs.lemmas.List.{append-nil}
use Rattle.condition_sat.specs.Admitted.{IsAdmitted}
use Rattle.conditional_columns.proofs.Connectives.{and_holds, holds_True}
use Rattle.feature_expr.specs.Expressions.{and_of}
use Rattle.feature_expr.specs.Names.{among}
use Rattle.feature_expr.specs.Satisfaction.{satisfies}
use Rattle.feature_expr.specs.declared.expr.Expr.{Expr}
use Rattle.feature_expr.specs.declared.expr.Expr as e
use Rattle.plain_relation.specs.Relations.{Column, has_name}
use Rattle.query_meaning.specs.Cases.{Case, IsOneOf, case, case_of}
use Rattle.query_meaning.specs.PlainTypes.{absent_name, asked}
use Rattle.query_meaning.specs.Sources.{table_named, table_source}
use Rattle.query_meaning.specs.Typing.{heading}
use Rattle.query_meaning.specs.WriteTyping.{IsWellTypedWrite, RefusesWrite, ShowsWriteCase, acting_cases, acts, table_name_of, unlisted, write_cases_in, write_expr}
use Rattle.query_meaning.specs.declared.ill.IllCase.TheVariants as ill
use Rattle.query_meaning.specs.declared.ill.IllTyped.{IllTyped}
use Rattle.query_meaning.specs.declared.ill.TypeRefused.{TypeRefused}
use Rattle.query_meaning.specs.declared.ill.TypeRefused.TheVariants as refused
use Rattle.query_meaning.specs.declared.typed.TypedColumn.{TypedColumn}
use Rattle.query_names.specs.NameCases.{Shows}
use Rattle.query_typing.specs.Faults.{NoCase, RefusesCase, ShowsIn}
use Rattle.query_typing.specs.declared.refused.CaseRefused.{CaseRefused}
use Rattle.query_typing.specs.declared.refused.CaseRefused.TheVariants as why
use Rattle.values.specs.declared.column_name.ColName.{ColName}
use Rattle.values.specs.declared.value.Kind.{Kind}
use Rattle.vra_syntax.specs.declared.cond.Cond.{Cond}
use Rattle.vra_syntax.specs.declared.write.SetItem.{SetItem}
use Rattle.vra_syntax.specs.declared.write.Write.{Write}
use Rattle.vra_syntax.specs.declared.write.Write.TheVariants as write
use Rattle.vschema.specs.Variants.{bare_name}
use Rattle.vschema.specs.declared.catalog.Table.{Table}
use Rattle.write_typing.proofs.FaultLaws.{no_case, one_case}
use Rattle.write_typing.specs.Acting.{IsTypedOver, RefusesOver, ShowsOver, absent_names, table_cases}
use Rattle.write_typing.specs.Faults.{fault_case, first, names_of}
use Rattle.write_typing.specs.declared.fault.NameFault.{NameFault}

-- what is asked where a write acts

none_where : (b : Bool) (cases : List Case) → (b ≡ true → cases ≡ []) → (if b then cases else []) ≡ []
none_where true cases none = none refl
none_where false cases none = refl

some_where : (b : Bool) (cases : List Case) → b ≡ true → (if b then cases else []) ≡ cases
some_where true cases is = refl
some_where false cases is = cc

pub none_acting : (model reach : Expr) (acts : List ℕ → Bool) (cases whole : List ℕ → List Case) → ((c : List ℕ) → satisfies c reach ≡ acts c) → ((c : List ℕ) → whole c ≡ (if acts c then cases c else [])) → NoCase model reach cases → NoCase model e.True whole
none_acting model reach acts cases whole said is none = record {
  none = λ c admitted reached. is c ∙ none_where (acts c) (cases c) (λ there. none.none c admitted (said c ∙ there));
}

pub refused_acting : (model reach : Expr) (acts : List ℕ → Bool) (cases whole : List ℕ → List Case) (it : CaseRefused) → ((c : List ℕ) → satisfies c reach ≡ acts c) → ((c : List ℕ) → whole c ≡ (if acts c then cases c else [])) → RefusesCase model reach cases it → RefusesCase model e.True whole it
refused_acting model reach acts cases whole why.Memory said is shows = tt
refused_acting model reach acts cases whole (why.Ill it) said is shows = record {
  config = shows.config;
  is = shows.is;
  admitted = shows.admitted;
  reached = holds_True shows.config;
  shown = subst (λ xs. IsOneOf xs (case_of it)) (sym (is shows.config ∙ some_where (acts shows.config) (cases shows.config) (sym (said shows.config) ∙ shows.reached))) shows.shown;
}

-- over one table

pub typed_over : (model : Expr) (kinds : List Kind) (table : Option Table) (w : Write) → option_map fault_case None ≡ first (table_cases kinds table w) → NoCase model e.True (λ c. write_cases_in c kinds table w) → IsTypedOver model kinds table w
typed_over model kinds table w named typed = record {
  named = no_case (table_cases kinds table w) named;
  typed = λ c admitted. typed.none c admitted (holds_True c);
}

pub name_refused : (model : Expr) (kinds : List Kind) (table : Option Table) (w : Write) (it : NameFault) (why : TypeRefused) → option_map fault_case (Some it) ≡ first (table_cases kinds table w) → Shows (fault_case it) why → RefusesOver model kinds table w why
name_refused model kinds table w it (refused.TooWide count) is shows = absurd shows
name_refused model kinds table w it (refused.Ill why) is shows = subst (ShowsOver model kinds table w (case_of why)) (sym shows.0) (subst (λ k. IsOneOf (table_cases kinds table w) k) (sym shows.1) (one_case (table_cases kinds table w) it is))
name_refused model kinds table w it refused.Memory is shows = tt

pub acting_refused : (model : Expr) (kinds : List Kind) (table : Option Table) (w : Write) (it : IllTyped) → ShowsIn model e.True (λ c. write_cases_in c kinds table w) it → RefusesOver model kinds table w (refused.Ill it)
acting_refused model kinds table w it shows = subst (ShowsOver model kinds table w (case_of it)) (sym shows.is) (shows.admitted, shows.shown)

-- over all tables

pub well_typed : (model : Expr) (kinds : List Kind) (tables : List Table) (w : Write) (table : Option Table) → table ≡ table_named tables (table_name_of w) → IsTypedOver model kinds table w → IsWellTypedWrite model kinds tables w
well_typed model kinds tables w table is typed =
    let over : IsTypedOver model kinds (table_named tables (table_name_of w)) w = subst (λ t. IsTypedOver model kinds t w) is typed in
    record { named = over.named; typed = over.typed }

shows_over : (model : Expr) (kinds : List Kind) (tables : List Table) (w : Write) (k : Case) (config : Option (List ℕ)) → ShowsOver model kinds (table_named tables (table_name_of w)) w k config → ShowsWriteCase model kinds tables w k config
shows_over model kinds tables w k None shows = shows
shows_over model kinds tables w k (Some c) shows = shows

refuses_over : (model : Expr) (kinds : List Kind) (tables : List Table) (w : Write) (why : TypeRefused) → RefusesOver model kinds (table_named tables (table_name_of w)) w why → RefusesWrite model kinds tables w why
refuses_over model kinds tables w (refused.TooWide count) shows = shows
refuses_over model kinds tables w (refused.Ill why) shows = shows_over model kinds tables w (case_of why) why.config shows
refuses_over model kinds tables w refused.Memory shows = tt

pub table_refused : (model : Expr) (kinds : List Kind) (tables : List Table) (w : Write) (table : Option Table) (why : TypeRefused) → table ≡ table_named tables (table_name_of w) → RefusesOver model kinds table w why → RefusesWrite model kinds tables w why
table_refused model kinds tables w table why is shows = refuses_over model kinds tables w why (subst (λ t. RefusesOver model kinds t w why) is shows)

-- one case more

pub unlisted_added : (c : List ℕ) (column : TypedColumn) (names : List (List ℕ)) (cond : Expr) (f0 f1 : List Case) → among column.name.base names ≡ false → cond ≡ column.cond → f1 ≡ f0 ++ (if satisfies c cond then case ill.NoValue column.name ∷ [] else []) → f1 ≡ f0 ++ (if satisfies c column.cond then unlisted names (heading column) else [])
unlisted_added c column names cond f0 f1 out is added =
    added ∙ ap (λ x. f0 ++ (if satisfies c x then case ill.NoValue column.name ∷ [] else [])) is
    ∙ ap (λ b. f0 ++ (if satisfies c column.cond then (if b then [] else case ill.NoValue column.name ∷ []) else [])) (sym out)

abbrev no_cases : List Case
no_cases = []

nothing_either : (b : Bool) → (if b then no_cases else no_cases) ≡ no_cases
nothing_either true = refl
nothing_either false = refl

pub listed_added : (c : List ℕ) (column : TypedColumn) (names : List (List ℕ)) (f : List Case) → among column.name.base names ≡ true → f ≡ f ++ (if satisfies c column.cond then unlisted names (heading column) else [])
listed_added c column names f in_them =
    sym (ap (λ b. f ++ (if satisfies c column.cond then (if b then [] else case ill.NoValue column.name ∷ []) else [])) in_them ∙ ap (λ (xs : List Case). f ++ xs) (nothing_either (satisfies c column.cond)) ∙ append-nil f)

turned : (b : Bool) (xs : List Case) → (if not b then xs else []) ≡ (if b then [] else xs)
turned true xs = refl
turned false xs = refl

pub absent_added : (c : List ℕ) (columns : List Column) (name : ColName) (there absent : Expr) (f0 f1 : List Case) → satisfies c there ≡ has_name name columns → satisfies c absent ≡ not (satisfies c there) → f1 ≡ f0 ++ (if satisfies c absent then case ill.AbsentColumn name ∷ [] else []) → f1 ≡ f0 ++ absent_name columns name
absent_added c columns name there absent f0 f1 is isnt added =
    added ∙ ap (λ b. f0 ++ (if b then case ill.AbsentColumn name ∷ [] else [])) (isnt ∙ ap not is)
    ∙ ap (λ (xs : List Case). f0 ++ xs) (turned (has_name name columns) (case ill.AbsentColumn name ∷ []))

-- the names of an update are those of its items
pub items_absent : (columns : List Column) (items : List SetItem) → absent_names columns (map bare_name (map (λ (item : SetItem). item.column) items)) ≡ flat_map (λ (item : SetItem). absent_name columns (bare_name item.column)) items
items_absent columns [] = refl
items_absent columns (item ∷ items) = ap (λ (xs : List Case). absent_name columns (bare_name item.column) ++ xs) (items_absent columns items)

-- what is asked over the table

pub where_it_acts : (c : List ℕ) (table : Table) (w : Write) (expr reach : Expr) → expr ≡ write_expr w → reach ≡ and_of expr table.cond → satisfies c reach ≡ acts c table w
where_it_acts c table w expr reach is said = ap (satisfies c) (said ∙ ap (λ x. and_of x table.cond) is) ∙ and_holds c (write_expr w) table.cond

pub asked_acting : (c : List ℕ) (kinds : List Kind) (table : Table) (w : Write) (there : List Column) (found : List Case) → there ≡ (table_source table).columns_at c → found ≡ acting_cases c kinds there w → write_cases_in c kinds (Some table) w ≡ (if acts c table w then found else [])
asked_acting c kinds table w there found is said = ap (λ (xs : List Case). if acts c table w then xs else []) (sym (said ∙ ap (λ ks. acting_cases c kinds ks w) is))

pub update_asked : (c : List ℕ) (kinds : List Kind) (columns : List Column) (w : Write) (table : List ℕ) (items : List SetItem) (cond : Cond) (expr : Expr) (names : List ColName) (f0 f1 f2 : List Case) → w ≡ write.Update table items cond expr → names ≡ names_of w → f0 ≡ [] → f1 ≡ f0 ++ absent_names columns names → f2 ≡ f1 ++ asked c kinds cond columns → f2 ≡ acting_cases c kinds columns w
update_asked c kinds columns w table items cond expr names f0 f1 f2 is named none one two =
    two ∙ ap (λ (xs : List Case). xs ++ asked c kinds cond columns) (one ∙ ap (λ (xs : List Case). xs ++ absent_names columns names) none ∙ ap (absent_names columns) (named ∙ ap names_of is) ∙ items_absent columns items)
    ∙ sym (ap (acting_cases c kinds columns) is)
