-- Forms over two sides, of which each may be absent in a variant.
use Rattle.std.proofs.Common.{◌≡◌, ◌&&◌, Bool, true, false, not, List, [], ◌∷◌, ◌++◌, refl, ◌∙◌, ap, if◌then◌else◌}
use Rattle.std.proofs.lemmas.List.{append-nil}
use Rattle.conditional_columns.specs.ColumnLists.{is_some_there}
use Rattle.plain_relation.specs.Relations.{Column}
use Rattle.query_meaning.proofs.ColumnSets.{all_itself}
use Rattle.query_meaning.specs.Cases.{Case, case}
use Rattle.query_meaning.specs.PlainTypes.{columns_differ}
use Rattle.query_meaning.specs.PossibleColumns.{all_among}
use Rattle.query_meaning.specs.declared.ill.IllCase.TheVariants as ill
use Rattle.relational_algebra.specs.Columns.{first_name, same_columns}

pub chosen_there : (l r : List Column) (a b : Bool) (zero one two : List Column) → b ≡ not a → zero ≡ [] → one ≡ zero ++ (if a then l else []) → two ≡ one ++ (if b then r else []) → two ≡ (if a then l else r)
chosen_there l r true b zero one two is start first second =
    second ∙ ap (λ v. one ++ (if v then r else [])) is ∙ append-nil one ∙ first ∙ ap (λ (v : List Column). v ++ l) start
chosen_there l r false b zero one two is start first second =
    second ∙ ap (λ v. one ++ (if v then r else [])) is ∙ ap (λ (v : List Column). v ++ r) (first ∙ append-nil zero ∙ start)

differ_by : (l r : List Column) (b : Bool) → b ≡ ((is_some_there l && is_some_there r) && not (all_among l r && all_among r l)) → (if b then case ill.ColumnsDiffer (first_name l) ∷ [] else []) ≡ columns_differ l r
differ_by [] r b is = ap (λ x. if x then case ill.ColumnsDiffer (first_name []) ∷ [] else []) is
differ_by (x ∷ l) [] b is = ap (λ v. if v then case ill.ColumnsDiffer (first_name (x ∷ l)) ∷ [] else []) is
differ_by (x ∷ l) (y ∷ r) b is = ap (λ v. if v then case ill.ColumnsDiffer (first_name (x ∷ l)) ∷ [] else []) is ∙ turned (same_columns (x ∷ l) (y ∷ r)) (case ill.ColumnsDiffer (first_name (x ∷ l)))
  where
    turned : (s : Bool) (one : Case) → (if not s then one ∷ [] else []) ≡ (if s then [] else one ∷ [])
    turned true one = refl
    turned false one = refl

pub differ_added : (l r : List Column) (t s d b : Bool) (old new : List Case) → t ≡ (is_some_there l && is_some_there r) → s ≡ (all_among l r && all_among r l) → d ≡ not s → b ≡ (t && d) → new ≡ old ++ (if b then case ill.ColumnsDiffer (first_name l) ∷ [] else []) → new ≡ old ++ columns_differ l r
differ_added l r t s d b old new t_is s_is d_is is added =
    added ∙ ap (λ (xs : List Case). old ++ xs) (differ_by l r b (is ∙ ap (λ v. v && d) t_is ∙ ap (λ v. (is_some_there l && is_some_there r) && v) (d_is ∙ ap not s_is)))

-- a side doesn't differ from itself
pub same_side : (l : List Column) → columns_differ l l ≡ []
same_side [] = refl
same_side (x ∷ l) = rw (all_itself (x ∷ l)) refl
