-- What was put together without repeats stays as it is when it is put together so again.
use Rattle.std.proofs.Common.{◌≡◌, Bool, true, false, not, ◌&&◌, List, [], ◌∷◌, ◌++◌, fold, refl, sym, ◌∙◌, ap, append_assoc}
use Rattle.std.proofs.lemmas.List.{append-nil}
use Rattle.std.proofs.lemmas.List.Sums.{fold-append}
use Rattle.plain_relation.specs.Relations.{Column}
use Rattle.query_names.specs.Once.{fresh_behind, stand_once}
use Rattle.relational_algebra.specs.Columns.{among, once, merged, with_column}

pub both_true : (a b : Bool) → a && b ≡ true → (a ≡ true) × (b ≡ true)
both_true true b is = (refl, is)
both_true false b is = (is, absurd (let e : false ≡ true = is in cc e))

pub not_true : (b : Bool) → not b ≡ true → b ≡ false
not_true true is = sym is
not_true false is = refl

-- columns that are all fresh are added one by one
pub adds_fresh : (before columns : List Column) → fresh_behind before columns ≡ true → fold with_column before columns ≡ before ++ columns
adds_fresh before [] fresh = sym (append-nil before)
adds_fresh before (column ∷ columns) fresh =
    let both = both_true (not (among column before)) (fresh_behind (before ++ column ∷ []) columns) fresh in
    let new : among column before ≡ false = not_true (among column before) both.0 in
    rw new (adds_fresh (before ++ column ∷ []) columns both.1 ∙ append_assoc before (column ∷ []) columns)

pub once_stays : (columns : List Column) → stand_once columns ≡ true → once columns ≡ columns
once_stays columns fresh = adds_fresh [] columns fresh

-- one more that is fresh
fresh_more : (before columns : List Column) (column : Column) → fresh_behind before columns ≡ true → among column (before ++ columns) ≡ false → fresh_behind before (columns ++ column ∷ []) ≡ true
fresh_more before [] column fresh new =
    let e : among column before ≡ false = rw (append-nil before) at new in
    rw e refl
fresh_more before (first ∷ columns) column fresh new =
    let both = both_true (not (among first before)) (fresh_behind (before ++ first ∷ []) columns) fresh in
    let e : among column ((before ++ first ∷ []) ++ columns) ≡ false = ap (among column) (append_assoc before (first ∷ []) columns) ∙ new in
    let more : fresh_behind (before ++ first ∷ []) (columns ++ column ∷ []) ≡ true = fresh_more (before ++ first ∷ []) columns column both.1 e in
    rw (both.0, more) refl

fresh_with : (columns : List Column) (column : Column) (b : Bool) → among column columns ≡ b → stand_once columns ≡ true → stand_once (with_column columns column) ≡ true
fresh_with columns column true is fresh = rw is fresh
fresh_with columns column false is fresh = rw is (fresh_more [] columns column fresh is)

pub fold_once : (before columns : List Column) → stand_once before ≡ true → stand_once (fold with_column before columns) ≡ true
fold_once before [] fresh = fresh
fold_once before (column ∷ columns) fresh = fold_once (with_column before column) columns (fresh_with before column (among column before) refl fresh)

pub once_once : (columns : List Column) → stand_once (once columns) ≡ true
once_once columns = fold_once [] columns refl

-- where the left columns stand once, the right ones are added to them
pub merged_adds : (left right : List Column) → stand_once left ≡ true → merged left right ≡ fold with_column left right
merged_adds left right fresh = fold-append with_column [] left right ∙ ap (λ (columns : List Column). fold with_column columns right) (once_stays left fresh)
