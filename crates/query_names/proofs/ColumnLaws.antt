-- Columns that stand in a list.
use Rattle.std.proofs.Common.{◌≡◌, ℕ, ◌<◌, length, get_or, zero, suc, Bool, true, false, ◌||◌, List, [], ◌∷◌, map, Some, None, slice_get, refl, ap, ◌∙◌}
use Rattle.std.proofs.lemmas.Option.{slice_get_read}
use Rattle.plain_relation.specs.Relations.{Column}
use Rattle.query_names.specs.Headings.{heading, headings, of_kind}
use Rattle.query_names.specs.declared.columns.PossibleColumn.{PossibleColumn}
use Rattle.relational_algebra.specs.Columns.{among, kinds_of, renamed, same_column, with_column}
use Rattle.values.specs.declared.column_name.ColName.{ColName}

or_right : (a b : Bool) → b ≡ true → a || b ≡ true
or_right true b is = refl
or_right false b is = is

same_some : (one other : PossibleColumn) → Some one ≡ Some other → one ≡ other
same_some one other is = cc is

pub among_at : (columns : List PossibleColumn) (place : ℕ) (other : PossibleColumn) (column : Column) → slice_get columns place ≡ Some other → same_column column (heading other) ≡ true → among column (headings columns) ≡ true
among_at [] place other column there same = absurd (let e : None ≡ Some other = there in cc e)
among_at (first ∷ columns) zero other column there same =
    let e : same_column column (heading first) ≡ true = ap (λ (c : PossibleColumn). same_column column (heading c)) (same_some first other there) ∙ same in
    rw e refl
among_at (first ∷ columns) (suc place) other column there same = or_right (same_column column (heading first)) (among column (headings columns)) (among_at columns place other column there same)

pub among_here : (columns : List PossibleColumn) (place : ℕ) (other : PossibleColumn) (column : Column) → place < length columns → other ≡ get_or columns place other → same_column column (heading other) ≡ true → among column (headings columns) ≡ true
among_here columns place other column within here same = among_at columns place other column (slice_get_read columns (length columns) place other refl within here) same

-- a column that is among the others isn't added
pub there_already : (columns : List Column) (column : Column) → among column columns ≡ true → with_column columns column ≡ columns
there_already columns column is = rw is refl

pub kinds_renamed : (name : ColName) (columns : List Column) → map (renamed name) columns ≡ map (of_kind name) (kinds_of columns)
kinds_renamed name [] = refl
kinds_renamed name (column ∷ columns) = ap (λ (xs : List Column). renamed name column ∷ xs) (kinds_renamed name columns)
