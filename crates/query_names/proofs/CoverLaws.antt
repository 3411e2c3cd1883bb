-- Where a parameter stands opposite a name that isn't known, some name isn't known.
use Rattle.std.proofs.Common.{◌≡◌, ℕ, Bool, true, false, not, ◌&&◌, ◌||◌, ◌==◌, List, [], ◌∷◌, ◌++◌, map, Option, Some, None, refl, sym, ◌∙◌, ap, subst}
use Rattle.std.specs.List.{flat_map, list_any}
use Rattle.std.proofs.lemmas.List.{append-nil}
use Rattle.std.proofs.lemmas.List.Folds.{list_any-append}
use Rattle.plain_relation.specs.Relations.{Column}
use Rattle.query_meaning.specs.Cases.{Case}
use Rattle.query_meaning.specs.Names.{Named, named_step, names_of, unknown_in_cond, unknown_in_items, unknown_name, unknown_operand, unknown_step}
use Rattle.query_meaning.specs.ParameterKinds.{is_unknown, lacks_partner, parameters_in, unknown_names}
use Rattle.query_meaning.specs.Parameters.{Occurrence, Partner, OfKind, Unknown, Open, occurrence, occurrences, occurrences_step, partner_named, partner_of}
use Rattle.query_meaning.specs.Sources.{source_of, table_named}
use Rattle.query_meaning.specs.WriteTyping.{assignment_of, assignments_of, parameters_over, unknown_over, value_occurrence, write_parameters, write_unknown, table_name_of}
use Rattle.query_names.proofs.OperandLaws.{unknown_by_name}
use Rattle.query_names.proofs.PartLaws.{source_by_table}
use Rattle.query_names.proofs.WriteLaws.{rows_assigned}
use Rattle.query_names.specs.Covered.{covered, faces_unknown, has_case}
use Rattle.query_names.specs.Findings.{unknown_by}
use Rattle.query_names.specs.Writes.{columns_named, row_occurrences, unknown_bare}
use Rattle.values.specs.declared.column_name.ColName.{ColName}
use Rattle.vra_syntax.specs.declared.cond.Cond.{Cond, map-Cond, roll-Cond}
use Rattle.vra_syntax.specs.declared.cond.Cond.TheFolds.{fold-roll-Cond, ind-Cond}
use Rattle.vra_syntax.specs.declared.cond.Cond.TheOpen.{Cond-F}
use Rattle.vra_syntax.specs.declared.cond.Operand.{Operand}
use Rattle.vra_syntax.specs.declared.cond.Operand.TheVariants as operand
use Rattle.vra_syntax.specs.declared.query.Query.{Query, map-Query, roll-Query}
use Rattle.vra_syntax.specs.declared.query.Query.TheFolds.{fold-roll-Query, ind-Query}
use Rattle.vra_syntax.specs.declared.query.Query.TheOpen.{Query-F}
use Rattle.vra_syntax.specs.declared.statement.Statement.{Statement}
use Rattle.vra_syntax.specs.declared.statement.Statement.TheVariants as statement
use Rattle.vra_syntax.specs.declared.write.SetItem.{SetItem}
use Rattle.vra_syntax.specs.declared.write.Write.{Write}
use Rattle.vra_syntax.specs.declared.write.Write.TheVariants as write
use Rattle.vschema.specs.Variants.{bare_name}
use Rattle.vschema.specs.declared.catalog.Table.{Table}

-- On truth values alone.

both : (a b x y : Bool) → not a || x ≡ true → not b || y ≡ true → not (a || b) || (x || y) ≡ true
both false false x y f g = refl
both false true true y f g = refl
both false true false y f g = g
both true b true y f g = refl
both true b false y f g = absurd (let e : false ≡ true = f in cc e)

true_last : (b : Bool) → b || true ≡ true
true_last true = refl
true_last false = refl

crossed : (a b x y : Bool) → not a || y ≡ true → not b || x ≡ true → not (a || b) || (x || y) ≡ true
crossed false false x y f g = refl
crossed a true true y f g = true_last (not (a || true))
crossed false true false y f g = absurd (let e : false ≡ true = g in cc e)
crossed true true false y f g = absurd (let e : false ≡ true = g in cc e)
crossed true false true y f g = refl
crossed true false false y f g = f

alike : (a b x : Bool) → not a || x ≡ true → not b || x ≡ true → not (a || b) || x ≡ true
alike false b x f g = g
alike true b x f g = f

-- Lists.

some_append : (unknown more : List Case) → has_case (unknown ++ more) ≡ has_case unknown || has_case more
some_append [] more = refl
some_append (one ∷ unknown) more = refl

faces_append : (found more : List Occurrence) → faces_unknown (found ++ more) ≡ faces_unknown found || faces_unknown more
faces_append found more = list_any-append (λ (one : Occurrence). is_unknown one.partner) found more

cover_append : (unknown more : List Case) (found behind : List Occurrence) → covered unknown found ≡ true → covered more behind ≡ true → covered (unknown ++ more) (found ++ behind) ≡ true
cover_append unknown more found behind f g = rw (faces_append found behind, some_append unknown more) (both (faces_unknown found) (faces_unknown behind) (has_case unknown) (has_case more) f g)

cover_crossed : (unknown more : List Case) (found behind : List Occurrence) → covered more found ≡ true → covered unknown behind ≡ true → covered (unknown ++ more) (found ++ behind) ≡ true
cover_crossed unknown more found behind f g = rw (faces_append found behind, some_append unknown more) (crossed (faces_unknown found) (faces_unknown behind) (has_case unknown) (has_case more) f g)

cover_same : (unknown : List Case) (found behind : List Occurrence) → covered unknown found ≡ true → covered unknown behind ≡ true → covered unknown (found ++ behind) ≡ true
cover_same unknown found behind f g = rw (faces_append found behind) (alike (faces_unknown found) (faces_unknown behind) (has_case unknown) f g)

cover_more : (unknown more : List Case) (found : List Occurrence) → covered unknown found ≡ true → covered (unknown ++ more) found ≡ true
cover_more unknown more found f = ap (covered (unknown ++ more)) (sym (append-nil found)) ∙ cover_append unknown more found [] f refl

-- Conditions.

by_partner : (partner : Partner) (name : ColName) (other : Operand) → covered (unknown_by partner (operand.Column name)) (occurrence partner other) ≡ true
by_partner (OfKind kind) name (operand.Column column) = refl
by_partner (OfKind kind) name (operand.Literal value) = refl
by_partner (OfKind kind) name (operand.Param number) = refl
by_partner Unknown name (operand.Column column) = refl
by_partner Unknown name (operand.Literal value) = refl
by_partner Unknown name (operand.Param number) = refl
by_partner Open name (operand.Column column) = refl
by_partner Open name (operand.Literal value) = refl
by_partner Open name (operand.Param number) = refl

by_name : (columns : List Column) (name : ColName) (other : Operand) → covered (unknown_name columns name) (occurrence (partner_named columns name) other) ≡ true
by_name columns name other = ap (λ (cases : List Case). covered cases (occurrence (partner_named columns name) other)) (sym (unknown_by_name columns name)) ∙ by_partner (partner_named columns name) name other

by_operand : (columns : List Column) (one other : Operand) → covered (unknown_operand columns one) (occurrence (partner_of columns one) other) ≡ true
by_operand columns (operand.Column name) other = by_name columns name other
by_operand columns (operand.Literal value) (operand.Column column) = refl
by_operand columns (operand.Literal value) (operand.Literal other) = refl
by_operand columns (operand.Literal value) (operand.Param number) = refl
by_operand columns (operand.Param number) (operand.Column column) = refl
by_operand columns (operand.Param number) (operand.Literal value) = refl
by_operand columns (operand.Param number) (operand.Param other) = refl

module _ (columns : List Column) where
  abbrev InCond : Cond → Type 0
  InCond cond = covered (unknown_in_cond columns cond) (occurrences columns cond) ≡ true

  cond_rolled : (x : Cond-F Cond) → covered (unknown_step columns (map-Cond Cond (List Case) (unknown_in_cond columns) x)) (occurrences_step columns (map-Cond Cond (List Occurrence) (occurrences columns) x)) ≡ true → InCond (roll-Cond x)
  cond_rolled x f = ap (λ (u : List Case). covered u (occurrences columns (roll-Cond x))) (fold-roll-Cond (List Case) (unknown_step columns) x) ∙ ap (covered (unknown_step columns (map-Cond Cond (List Case) (unknown_in_cond columns) x))) (fold-roll-Cond (List Occurrence) (occurrences_step columns) x) ∙ f

  cond_layer : (y : Cond-F ((cond : Cond) × InCond cond)) → InCond (roll-Cond (map-Cond ((cond : Cond) × InCond cond) Cond (λ e. e.0) y))
  cond_layer (Cond-F.Cmp left sign right) = cond_rolled (Cond-F.Cmp left sign right) (cover_crossed (unknown_operand columns left) (unknown_operand columns right) (occurrence (partner_of columns right) left) (occurrence (partner_of columns left) right) (by_operand columns right left) (by_operand columns left right))
  cond_layer (Cond-F.Not inner) = cond_rolled (Cond-F.Not inner.0) inner.1
  cond_layer (Cond-F.And l r) = cond_rolled (Cond-F.And l.0 r.0) (cover_append (unknown_in_cond columns l.0) (unknown_in_cond columns r.0) (occurrences columns l.0) (occurrences columns r.0) l.1 r.1)
  cond_layer (Cond-F.Or l r) = cond_rolled (Cond-F.Or l.0 r.0) (cover_append (unknown_in_cond columns l.0) (unknown_in_cond columns r.0) (occurrences columns l.0) (occurrences columns r.0) l.1 r.1)
  cond_layer (Cond-F.Choice expr l r) = cond_rolled (Cond-F.Choice expr l.0 r.0) (cover_append (unknown_in_cond columns l.0) (unknown_in_cond columns r.0) (occurrences columns l.0) (occurrences columns r.0) l.1 r.1)
  cond_layer Cond-F.True = cond_rolled Cond-F.True refl
  cond_layer Cond-F.False = cond_rolled Cond-F.False refl

  in_cond : (cond : Cond) → InCond cond
  in_cond = ind-Cond InCond (λ x y is. subst (λ z. InCond (roll-Cond z)) is (cond_layer y))

-- Queries.

module _ (tables : List Table) where
  abbrev Covers : Named → Type 0
  Covers names = covered names.unknown names.parameters ≡ true

  abbrev InQuery : Query → Type 0
  InQuery query = Covers (names_of tables query)

  query_rolled : (x : Query-F Query) → Covers (named_step tables (map-Query Query Named (names_of tables) x)) → InQuery (roll-Query x)
  query_rolled x f = subst Covers (sym (fold-roll-Query Named (named_step tables) x)) f

  of_two : (left right : Named) → Covers left → Covers right → covered (left.unknown ++ right.unknown) (left.parameters ++ right.parameters) ≡ true
  of_two left right f g = cover_append left.unknown right.unknown left.parameters right.parameters f g

  query_layer : (y : Query-F ((query : Query) × InQuery query)) → InQuery (roll-Query (map-Query ((query : Query) × InQuery query) Query (λ e. e.0) y))
  query_layer (Query-F.Table name) = query_rolled (Query-F.Table name) refl
  query_layer (Query-F.Select items s cond) = query_rolled (Query-F.Select items s.0 cond) (let n : Named = names_of tables s.0 in cover_append (n.unknown ++ unknown_in_items n.possible items) (unknown_in_cond n.possible cond) n.parameters (occurrences n.possible cond) (cover_more n.unknown (unknown_in_items n.possible items) n.parameters s.1) (in_cond n.possible cond))
  query_layer (Query-F.Join l r cond) = query_rolled (Query-F.Join l.0 r.0 cond) (let columns : List Column = (named_step tables (Query-F.Join (names_of tables l.0) (names_of tables r.0) cond)).possible in cover_append ((names_of tables l.0).unknown ++ (names_of tables r.0).unknown) (unknown_in_cond columns cond) ((names_of tables l.0).parameters ++ (names_of tables r.0).parameters) (occurrences columns cond) (of_two (names_of tables l.0) (names_of tables r.0) l.1 r.1) (in_cond columns cond))
  query_layer (Query-F.Union l r) = query_rolled (Query-F.Union l.0 r.0) (of_two (names_of tables l.0) (names_of tables r.0) l.1 r.1)
  query_layer (Query-F.Except l r) = query_rolled (Query-F.Except l.0 r.0) (of_two (names_of tables l.0) (names_of tables r.0) l.1 r.1)
  query_layer (Query-F.Alias s name) = query_rolled (Query-F.Alias s.0 name) s.1
  query_layer (Query-F.Choice expr l r) = query_rolled (Query-F.Choice expr l.0 r.0) (of_two (names_of tables l.0) (names_of tables r.0) l.1 r.1)
  query_layer Query-F.Empty = query_rolled Query-F.Empty refl

  in_query : (query : Query) → InQuery query
  in_query = ind-Query InQuery (λ x y is. subst (λ z. InQuery (roll-Query z)) is (query_layer y))

-- Writes.

in_row : (columns : List Column) (names : List (List ℕ)) (row : List Operand) → covered (unknown_bare columns names) (row_occurrences (columns_named columns names) row) ≡ true
in_row columns [] row = refl
in_row columns (name ∷ names) [] = refl
in_row columns (name ∷ names) (value ∷ row) = cover_append (unknown_name columns (bare_name name)) (unknown_bare columns names) (occurrence (partner_named columns (bare_name name)) value) (row_occurrences (columns_named columns names) row) (by_name columns (bare_name name) value) (in_row columns names row)

in_rows : (columns : List Column) (names : List (List ℕ)) (rows : List (List Operand)) → covered (unknown_bare columns names) (flat_map (row_occurrences (columns_named columns names)) rows) ≡ true
in_rows columns names [] = refl
in_rows columns names (row ∷ rows) = cover_same (unknown_bare columns names) (row_occurrences (columns_named columns names) row) (flat_map (row_occurrences (columns_named columns names)) rows) (in_row columns names row) (in_rows columns names rows)

in_items : (columns : List Column) (items : List SetItem) → covered (unknown_bare columns (map (λ (item : SetItem). item.column) items)) (flat_map (value_occurrence columns) (map assignment_of items)) ≡ true
in_items columns [] = refl
in_items columns (item ∷ items) = cover_append (unknown_name columns (bare_name item.column)) (unknown_bare columns (map (λ (i : SetItem). i.column) items)) (occurrence (partner_named columns (bare_name item.column)) item.value) (flat_map (value_occurrence columns) (map assignment_of items)) (by_name columns (bare_name item.column) item.value) (in_items columns items)

over_known : (table : Table) (w : Write) → covered (unknown_over (Some table) w) (parameters_over (source_of (Some table)).possible w) ≡ true
over_known table (write.Insert name names rows expr) =
    let columns : List Column = (source_of (Some table)).possible in
    cover_append (unknown_bare columns names) [] (flat_map (value_occurrence columns) (flat_map (assignments_of names) rows)) [] (ap (covered (unknown_bare columns names)) (rows_assigned columns names rows) ∙ in_rows columns names rows) refl
over_known table (write.Delete name cond expr) = in_cond (source_of (Some table)).possible cond
over_known table (write.Update name items cond expr) =
    let columns : List Column = (source_of (Some table)).possible in
    cover_append (unknown_bare columns (map (λ (i : SetItem). i.column) items)) (unknown_in_cond columns cond) (flat_map (value_occurrence columns) (map assignment_of items)) (occurrences columns cond) (in_items columns items) (in_cond columns cond)

over_table : (found : Option Table) (w : Write) → covered (unknown_over found w) (parameters_over (source_of found).possible w) ≡ true
over_table None w = true_last (not (faces_unknown (parameters_over (source_of None).possible w)))
over_table (Some table) w = over_known table w

in_write : (tables : List Table) (w : Write) → covered (write_unknown tables w) (write_parameters tables w) ≡ true
in_write tables w = rw (source_by_table tables (table_name_of w)) (over_table (table_named tables (table_name_of w)) w)

pub covered_statement : (tables : List Table) (s : Statement) → covered (unknown_names tables s) (parameters_in tables s) ≡ true
covered_statement tables (statement.Query query) = in_query tables query
covered_statement tables (statement.Write w) = in_write tables w
covered_statement tables statement.Begin = refl
covered_statement tables statement.Commit = refl
covered_statement tables statement.Rollback = refl
covered_statement tables statement.Set = refl

pub covered_by : (tables : List Table) (s : Statement) (unknown : List Case) (found : List Occurrence) → unknown ≡ unknown_names tables s → found ≡ parameters_in tables s → covered unknown found ≡ true
covered_by tables s unknown found u f = rw (u, f) (covered_statement tables s)

-- a parameter that lacks a partner faces an unknown name
lacking_at : (a b more faces : Bool) → (a && b) || more ≡ true → (more ≡ true → faces ≡ true) → b || faces ≡ true
lacking_at a true more faces is then = refl
lacking_at true false more faces is then = then is
lacking_at false false more faces is then = then is

lacking_faces : (number : ℕ) (found : List Occurrence) → list_any (lacks_partner number) found ≡ true → faces_unknown found ≡ true
lacking_faces number [] is = is
lacking_faces number (one ∷ found) is = lacking_at (one.number == number) (is_unknown one.partner) (list_any (lacks_partner number) found) (faces_unknown found) is (lacking_faces number found)

pub some_unknown : (number : ℕ) (unknown : List Case) (found : List Occurrence) → covered unknown found ≡ true → list_any (lacks_partner number) found ≡ true → has_case unknown ≡ true
some_unknown number unknown found cover lacks = let f = lacking_faces number found lacks in let c : not true || has_case unknown ≡ true = rw f at cover in c
