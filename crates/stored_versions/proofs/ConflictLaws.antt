-- The first conflict of a list is the one of the commit rule: the least place past the snapshot, and there the first
-- table.
use Rattle.std.proofs.Common.{◌≡◌, ℕ, zero, suc, ◌+◌, ◌≤◌, Bool, true, false, ◌||◌, if◌then◌else◌, List, [], ◌∷◌, ◌++◌, length, take, drop, append_assoc, append-nil, Option, Some, None, refl, sym, ◌∙◌, ap, subst, arith, rules}
use Rattle.std.specs.List.{list_any}
use Rattle.std.proofs.lemmas.List.{take-append-drop, length-take-le, length-append, length-drop, drop_at, drop-append-le}
use Rattle.stored_versions.specs.Conflicts.{wrote_same, conflicts, first_table, Conflict, conflict_at, conflict_from, conflict_of, IsConflict}
use Rattle.query_meaning.specs.WriteTyping.{table_name_of}
use Rattle.commit_log.specs.declared.commit.Commit.{Commit}
use Rattle.vra_syntax.specs.declared.write.Write.{Write}

-- among commits of which the first has a place, this one is the first with a conflict
pub record IsFirst (first : ℕ) (commits : List Commit) (writes : List Write) (table : List ℕ) (place : ℕ) : Type 0 where
  pub before : List Commit
  pub commit : Commit
  pub behind : List Commit
  pub list_is : commits ≡ before ++ commit ∷ behind
  pub place_is : place ≡ length before + first
  pub least : list_any (conflicts writes) before ≡ false
  pub table_is : first_table writes commit ≡ Some table

first_none_by : (w : Write) (writes : List Write) (commit : Commit) (b : Bool) → (first_table writes commit ≡ None → conflicts writes commit ≡ false) → (if b then Some (table_name_of w) else first_table writes commit) ≡ None → (b || conflicts writes commit) ≡ false
first_none_by w writes commit true on h = search rules
first_none_by w writes commit false on h = on h

-- no table, no conflict
first_none : (writes : List Write) (commit : Commit) → first_table writes commit ≡ None → conflicts writes commit ≡ false
first_none [] commit h = refl
first_none (w ∷ writes) commit h = first_none_by w writes commit (wrote_same commit w) (first_none writes commit) h

some_first_by : (w : Write) (writes : List Write) (commit : Commit) (table : List ℕ) (b : Bool) → (first_table writes commit ≡ Some table → conflicts writes commit ≡ true) → (if b then Some (table_name_of w) else first_table writes commit) ≡ Some table → (b || conflicts writes commit) ≡ true
some_first_by w writes commit table true on h = refl
some_first_by w writes commit table false on h = on h

-- a table, a conflict
first_some : (writes : List Write) (commit : Commit) (table : List ℕ) → first_table writes commit ≡ Some table → conflicts writes commit ≡ true
first_some [] commit table h = search rules
first_some (w ∷ writes) commit table h = some_first_by w writes commit table (wrote_same commit w) (first_some writes commit table) h

same_conflict : (a b : Conflict) → Some a ≡ Some b → a ≡ b
same_conflict a b h = search rules

any_false : (a b : Bool) → a ≡ false → b ≡ false → (a || b) ≡ false
any_false true b h k = search rules
any_false false b h k = k

found_by : (first : ℕ) (commit : Commit) (commits : List Commit) (writes : List Write) (c : Conflict) (later : Option Conflict)
    → (later ≡ Some c → IsFirst (first + 1) commits writes c.table c.place)
    → (t : Option (List ℕ)) → first_table writes commit ≡ t → conflict_at first t later ≡ Some c → IsFirst first (commit ∷ commits) writes c.table c.place
found_by first commit commits writes c later rest (Some table) is k =
    subst (λ (c : Conflict). IsFirst first (commit ∷ commits) writes c.table c.place) (same_conflict (record { table = table; place = first }) c k)
    (record { before = []; commit = commit; behind = commits; list_is = refl; place_is = omega arith; least = refl; table_is = is })
found_by first commit commits writes c later rest None is k =
    let on = rest k in
    record {
      before = commit ∷ on.before;
      commit = on.commit;
      behind = on.behind;
      list_is = ap (λ xs. commit ∷ xs) on.list_is;
      place_is = let p = on.place_is in omega (arith, p);
      least = any_false (conflicts writes commit) (list_any (conflicts writes) on.before) (first_none writes commit is) on.least;
      table_is = on.table_is;
    }

-- what the list function finds is the first conflict
pub found_first : (commits : List Commit) (first : ℕ) (writes : List Write) (c : Conflict) → conflict_from first commits writes ≡ Some c → IsFirst first commits writes c.table c.place
found_first [] first writes c h = search rules
found_first (commit ∷ commits) first writes c h =
    found_by first commit commits writes c (conflict_from (first + 1) commits writes) (found_first commits (first + 1) writes c) (first_table writes commit) refl h

none_by : (first : ℕ) (commit : Commit) (commits : List Commit) (writes : List Write) (later : Option Conflict)
    → (later ≡ None → list_any (conflicts writes) commits ≡ false)
    → (t : Option (List ℕ)) → first_table writes commit ≡ t → conflict_at first t later ≡ None → list_any (conflicts writes) (commit ∷ commits) ≡ false
none_by first commit commits writes later rest (Some table) is k = search rules
none_by first commit commits writes later rest None is k = any_false (conflicts writes commit) (list_any (conflicts writes) commits) (first_none writes commit is) (rest k)

-- where it finds none there is none
pub none_found : (commits : List Commit) (first : ℕ) (writes : List Write) → conflict_from first commits writes ≡ None → list_any (conflicts writes) commits ≡ false
none_found [] first writes h = refl
none_found (commit ∷ commits) first writes h =
    none_by first commit commits writes (conflict_from (first + 1) commits writes) (none_found commits (first + 1) writes) (first_table writes commit) refl h

false_first : (a b : Bool) → (a || b) ≡ false → a ≡ false
false_first true b h = h
false_first false b h = refl

false_second : (a b : Bool) → (a || b) ≡ false → b ≡ false
false_second true b h = search rules
false_second false b h = h

passed_by : (first : ℕ) (commit : Commit) (writes : List Write) (later : Option Conflict) (t : Option (List ℕ)) → first_table writes commit ≡ t → conflicts writes commit ≡ false → conflict_at first t later ≡ later
passed_by first commit writes later (Some table) is fails = let holds_it = first_some writes commit table is in search rules
passed_by first commit writes later None is fails = refl

-- commits that have no conflict are passed
passed : (before : List Commit) (first : ℕ) (rest : List Commit) (writes : List Write) → list_any (conflicts writes) before ≡ false → conflict_from first (before ++ rest) writes ≡ conflict_from (length before + first) rest writes
passed [] first rest writes h = ap (λ n. conflict_from n rest writes) (omega arith)
passed (commit ∷ before) first rest writes h =
    passed_by first commit writes (conflict_from (first + 1) (before ++ rest) writes) (first_table writes commit) refl (false_first (conflicts writes commit) (list_any (conflicts writes) before) h)
    ∙ passed before (first + 1) rest writes (false_second (conflicts writes commit) (list_any (conflicts writes) before) h)
    ∙ ap (λ n. conflict_from n rest writes) (omega arith)

-- where there is none it finds none
pub found_none : (commits : List Commit) (first : ℕ) (writes : List Write) → list_any (conflicts writes) commits ≡ false → conflict_from first commits writes ≡ None
found_none commits first writes h = ap (λ xs. conflict_from first xs writes) (sym (append-nil commits)) ∙ passed commits first [] writes h

within : (base : ℕ) (seen before : List Commit) (commit : Commit) (behind : List Commit) → drop base seen ≡ before ++ commit ∷ behind → base ≤ length seen
within zero seen before commit behind h = omega arith
within (suc base) [] [] commit behind h = search rules
within (suc base) [] (x ∷ before) commit behind h = search rules
within (suc base) (x ∷ seen) before commit behind h = let rest = within base seen before commit behind h in omega (arith, rest)

-- the first conflict past a snapshot is the conflict of the commit rule
pub conflict_found : (seen : List Commit) (base : ℕ) (writes : List Write) (c : Conflict) → conflict_of seen base writes ≡ Some c → IsConflict seen base writes c.table c.place
conflict_found seen base writes c h =
    let it = found_first (drop base seen) (base + 1) writes c h in
    let front : length (take base seen) ≡ base = length-take-le base seen (within base seen it.before it.commit it.behind it.list_is) in
    record {
      before = take base seen ++ it.before;
      commit = it.commit;
      behind = it.behind;
      log_is = sym (take-append-drop base seen) ∙ ap (λ xs. take base seen ++ xs) it.list_is ∙ sym (append_assoc (take base seen) it.before (it.commit ∷ it.behind));
      place_is = let p = it.place_is in let n = length-append (take base seen) it.before in omega (arith, p, n, front);
      past = let p = it.place_is in omega (arith, p);
      least = ap (λ xs. list_any (conflicts writes) xs) (drop_at (take base seen) it.before base front) ∙ it.least;
      table_is = it.table_is;
    }

-- and the conflict of the commit rule is found
pub conflict_is_found : (seen : List Commit) (base : ℕ) (writes : List Write) (table : List ℕ) (place : ℕ) → IsConflict seen base writes table place → conflict_of seen base writes ≡ Some (record { table = table; place = place })
conflict_is_found seen base writes table place it =
    let past = it.past in
    let place_is = it.place_is in
    let front : base ≤ length it.before = omega (arith, past, place_is) in
    let count : length (drop base it.before) + (base + 1) ≡ place = let n = length-drop base it.before in omega (arith, n, front, place_is) in
    ap (λ xs. conflict_from (base + 1) (drop base xs) writes) it.log_is
    ∙ ap (λ xs. conflict_from (base + 1) xs writes) (drop-append-le base it.before (it.commit ∷ it.behind) front)
    ∙ passed (drop base it.before) (base + 1) (it.commit ∷ it.behind) writes it.least
    ∙ ap (λ t. conflict_at (length (drop base it.before) + (base + 1)) t (conflict_from (length (drop base it.before) + (base + 1) + 1) it.behind writes)) it.table_is
    ∙ ap (λ n. Some (record { table = table; place = n })) count
