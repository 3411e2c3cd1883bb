-- One commit more in the search for a conflict.
use Rattle.std.proofs.Common.{◌≡◌, ℕ, zero, suc, ◌+◌, ◌≤◌, List, [], ◌∷◌, length, drop, slice_get, Option, Some, None, refl, sym, ◌∙◌, ap, arith, rules}
use Rattle.std.proofs.lemmas.List.{drop_all}
use Rattle.stored_versions.specs.Conflicts.{conflict_at, conflict_from, first_table}
use Rattle.commit_log.specs.declared.commit.Commit.{Commit}
use Rattle.vra_syntax.specs.declared.write.Write.{Write}

-- the item at a place is the first of those from it on
split_by : (place : ℕ) (seen : List Commit) (commit : Commit) → slice_get seen place ≡ Some commit → drop place seen ≡ commit ∷ drop (suc place) seen
split_by zero [] commit h = search rules
split_by zero (other ∷ seen) commit h = search (rules, h)
split_by (suc place) [] commit h = search rules
split_by (suc place) (other ∷ seen) commit h = split_by place seen commit h

split_at : (place : ℕ) (seen : List Commit) (commit : Commit) → slice_get seen place ≡ Some commit → drop place seen ≡ commit ∷ drop (place + 1) seen
split_at place seen commit is =
    let next : suc place ≡ place + 1 = omega arith in
    split_by place seen commit is ∙ ap (λ n. commit ∷ drop n seen) next

-- the search goes on behind a commit that wrote none of the tables
pub one_passed : (place : ℕ) (seen : List Commit) (commit : Commit) (writes : List Write) → slice_get seen place ≡ Some commit → first_table writes commit ≡ None → conflict_from (place + 1) (drop place seen) writes ≡ conflict_from (place + 1 + 1) (drop (place + 1) seen) writes
one_passed place seen commit writes is none =
    ap (λ xs. conflict_from (place + 1) xs writes) (split_at place seen commit is)
    ∙ ap (λ t. conflict_at (place + 1) t (conflict_from (place + 1 + 1) (drop (place + 1) seen) writes)) none

-- it ends at a commit that wrote one of them
pub one_found : (place : ℕ) (seen : List Commit) (commit : Commit) (writes : List Write) (table : List ℕ) → slice_get seen place ≡ Some commit → first_table writes commit ≡ Some table → conflict_from (place + 1) (drop place seen) writes ≡ Some (record { table = table; place = place + 1 })
one_found place seen commit writes table is some =
    ap (λ xs. conflict_from (place + 1) xs writes) (split_at place seen commit is)
    ∙ ap (λ t. conflict_at (place + 1) t (conflict_from (place + 1 + 1) (drop (place + 1) seen) writes)) some

-- past the last commit there is nothing to find
pub none_behind : (place : ℕ) (seen : List Commit) (writes : List Write) → length seen ≤ place → conflict_from (place + 1) (drop place seen) writes ≡ None
none_behind place seen writes h = ap (λ xs. conflict_from (place + 1) xs writes) (drop_all place seen h)
