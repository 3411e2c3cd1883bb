-- The names of a write, and its parameters row by row.
use Rattle.std.proofs.Common.{◌≡◌, ℕ, zero, suc, slice_get, ◌+◌, ◌<◌, ◌≤◌, List, [], ◌∷◌, ◌++◌, length, drop, get_or, refl, sym, ◌∙◌, ap, append_assoc, add-one, arith}
use Rattle.std.specs.List.{flat_map}
use Rattle.std.proofs.lemmas.Grind.{flat_map-append}
use Rattle.std.proofs.lemmas.List.{append-nil}
use Rattle.std.proofs.lemmas.List.{drop_all}
use Rattle.plain_relation.specs.Relations.{Column}
use Rattle.query_meaning.specs.Parameters.{Occurrence, Partner, occurrence}
use Rattle.query_meaning.specs.WriteTyping.{assignments_of, parameters_over, value_occurrence}
use Rattle.query_names.specs.Writes.{columns_named, met, row_occurrences}
use Rattle.vra_syntax.specs.declared.cond.Operand.{Operand}
use Rattle.feature_expr.specs.declared.expr.Expr.{Expr}
use Rattle.vra_syntax.specs.declared.write.Write.{Write}
use Rattle.vra_syntax.specs.declared.write.Write.TheVariants as write

-- a row of an insert
row_assigned : (columns : List Column) (names : List (List ℕ)) (row : List Operand) → flat_map (value_occurrence columns) (assignments_of names row) ≡ row_occurrences (columns_named columns names) row
row_assigned columns [] row = refl
row_assigned columns (name ∷ names) [] = refl
row_assigned columns (name ∷ names) (value ∷ row) = ap (λ (xs : List Occurrence). value_occurrence columns (record { column = name; value = value }) ++ xs) (row_assigned columns names row)

pub rows_assigned : (columns : List Column) (names : List (List ℕ)) (rows : List (List Operand)) → flat_map (value_occurrence columns) (flat_map (assignments_of names) rows) ≡ flat_map (row_occurrences (columns_named columns names)) rows
rows_assigned columns names [] = refl
rows_assigned columns names (row ∷ rows) =
    flat_map-append (value_occurrence columns) (assignments_of names row) (flat_map (assignments_of names) rows)
    ∙ ap (λ (xs : List Occurrence). xs ++ flat_map (value_occurrence columns) (flat_map (assignments_of names) rows)) (row_assigned columns names row)
    ∙ ap (λ (xs : List Occurrence). row_occurrences (columns_named columns names) row ++ xs) (rows_assigned columns names rows)

-- one value of a row

met_all : (partners : List Partner) (row : List Operand) (place : ℕ) (value : Operand) → place < length row → value ≡ get_or row place value → row_occurrences (drop place partners) (drop place row) ≡ met (slice_get partners place) value ++ row_occurrences (drop (suc place) partners) (drop (suc place) row)
met_all partners [] place value within here = absurd (omega (arith, within))
met_all [] (first ∷ row) zero value within here = refl
met_all [] (first ∷ row) (suc place) value within here = refl
met_all (partner ∷ partners) (first ∷ row) zero value within here = ap (λ (v : Operand). occurrence partner v ++ row_occurrences partners row) (sym here)
met_all (partner ∷ partners) (first ∷ row) (suc place) value within here = met_all partners row place value (omega (arith, within)) here

pub row_ends : (partners : List Partner) → row_occurrences partners [] ≡ []
row_ends [] = refl
row_ends (partner ∷ partners) = refl

pub value_read : (partners : List Partner) (row : List Operand) (place : ℕ) (value : Operand) (base before after : List Occurrence) → place < length row → value ≡ get_or row place value → before ++ row_occurrences (drop place partners) (drop place row) ≡ base → after ≡ before ++ met (slice_get partners place) value → after ++ row_occurrences (drop (place + 1) partners) (drop (place + 1) row) ≡ base
value_read partners row place value base before after within here whole added =
    ap (λ j. after ++ row_occurrences (drop j partners) (drop j row)) (add-one place)
    ∙ ap (λ (xs : List Occurrence). xs ++ row_occurrences (drop (suc place) partners) (drop (suc place) row)) added
    ∙ append_assoc before (met (slice_get partners place) value) (row_occurrences (drop (suc place) partners) (drop (suc place) row))
    ∙ ap (λ (xs : List Occurrence). before ++ xs) (sym (met_all partners row place value within here))
    ∙ whole

pub row_read : (partners : List Partner) (row : List Operand) (place : ℕ) (base found : List Occurrence) → length row ≤ place → found ++ row_occurrences (drop place partners) (drop place row) ≡ base → found ≡ base
row_read partners row place base found past whole =
    let e : row_occurrences (drop place partners) (drop place row) ≡ [] = ap (row_occurrences (drop place partners)) (drop_all place row past) ∙ row_ends (drop place partners) in
    sym (append-nil found) ∙ ap (λ (xs : List Occurrence). found ++ xs) (sym e) ∙ whole

-- the rows of an insert, opposite what its names are
pub rows_read : (columns : List Column) (names : List (List ℕ)) (rows : List (List Operand)) (partners : List Partner) (found : List Occurrence) → partners ≡ columns_named columns names → found ≡ flat_map (row_occurrences partners) rows → found ≡ flat_map (value_occurrence columns) (flat_map (assignments_of names) rows) ++ []
rows_read columns names rows partners found is said = said ∙ ap (λ (ps : List Partner). flat_map (row_occurrences ps) rows) is ∙ sym (rows_assigned columns names rows) ∙ sym (append-nil (flat_map (value_occurrence columns) (flat_map (assignments_of names) rows)))

pub inserted : (columns : List Column) (w : Write) (table : List ℕ) (names names' : List (List ℕ)) (rows rows' : List (List Operand)) (expr : Expr) (partners partners' : List Partner) (before after : List Occurrence) → w ≡ write.Insert table names rows expr → names' ≡ names → rows' ≡ rows → partners' ≡ partners → partners ≡ columns_named columns names' → before ≡ [] → after ≡ before ++ flat_map (row_occurrences partners') rows' → after ≡ parameters_over columns w
inserted columns w table names names' rows rows' expr partners partners' before after is same_names same_rows same_partners named empty added =
    let a : after ≡ flat_map (row_occurrences partners) rows = added ∙ ap (λ (xs : List Occurrence). xs ++ flat_map (row_occurrences partners') rows') empty ∙ ap (λ (ps : List Partner). flat_map (row_occurrences ps) rows') same_partners ∙ ap (flat_map (row_occurrences partners)) same_rows in
    let n : partners ≡ columns_named columns names = named ∙ ap (columns_named columns) same_names in
    rows_read columns names rows partners after n a ∙ sym (ap (parameters_over columns) is)
