-- Tables are taken out and put back.
use Rattle.std.proofs.Common.{◌≡◌, ℕ, zero, suc, ◌<◌, List, [], ◌∷◌, ◌++◌, length, set, get_or, append-nil, refl, sym, ◌∙◌, ap, subst, arith}
use Rattle.std.proofs.lemmas.List.{set-get_or, set-set}
use Rattle.plan_tables.specs.declared.rows.TableRows.{TableRows}
use Rattle.row_versions.specs.Changing.{AreWithin}
use Rattle.row_versions.specs.Waiting.{AreAlike, HaveRoom, changes_of, marks_back, tables_back}
use Rattle.row_versions.specs.declared.mark.Mark.{Mark}
use Rattle.row_versions.specs.declared.opened.Opened.{Opened}
use Rattle.table_changes.specs.declared.change.TableChange.{TableChange}

pub put_again : {X : Type 0} (xs : List X) (i : ℕ) (x none : X) → x ≡ get_or xs i x → set (set xs i none) i x ≡ xs
put_again xs i x none h = set-set xs i none x ∙ ap (set xs i) h ∙ set-get_or xs i x

pub alike_set : (i : ℕ) (marks : List (List Mark)) (tables : List TableRows) (one : List Mark) (table : TableRows) → length one ≡ length table.rows.rows → AreAlike marks tables → AreAlike (set marks i one) (set tables i table)
alike_set i [] [] one table is h = h
alike_set i [] (t ∷ tables) one table is h = absurd h
alike_set i (m ∷ marks) [] one table is h = absurd h
alike_set zero (m ∷ marks) (t ∷ tables) one table is h = (is, h.1)
alike_set (suc i) (m ∷ marks) (t ∷ tables) one table is h = (h.0, alike_set i marks tables one table is h.1)

pub alike_at : (i : ℕ) (marks : List (List Mark)) (tables : List TableRows) (one : List Mark) (table : TableRows) → i < length tables → AreAlike (set marks i one) (set tables i table) → length one ≡ length table.rows.rows
alike_at i [] [] one table less h = let never : ⊥ = omega (arith, less) in absurd never
alike_at i [] (t ∷ tables) one table less h = absurd (none i h) where
  none : (i : ℕ) → AreAlike [] (set (t ∷ tables) i table) → ⊥
  none zero h = h
  none (suc i) h = h
alike_at i (m ∷ marks) [] one table less h = let never : ⊥ = omega (arith, less) in absurd never
alike_at zero (m ∷ marks) (t ∷ tables) one table less h = h.0
alike_at (suc i) (m ∷ marks) (t ∷ tables) one table less h = alike_at i marks tables one table (omega (arith, less)) h.1

pub alike_many : (marks : List (List Mark)) (tables : List TableRows) → AreAlike marks tables → length marks ≡ length tables
alike_many [] [] h = refl
alike_many [] (t ∷ tables) h = absurd h
alike_many (m ∷ marks) [] h = absurd h
alike_many (m ∷ marks) (t ∷ tables) h = let rest = alike_many marks tables h.1 in omega (arith, rest)

-- the last one of changes
pub within_last : (n : ℕ) (changes : List TableChange) (last : TableChange) → AreWithin n (changes ++ last ∷ []) → AreWithin n changes × (last.table < n)
within_last n [] last h = (tt, h.0)
within_last n (change ∷ changes) last h = let rest = within_last n changes last h.1 in ((h.0, rest.0), rest.1)

-- while none is taken out
pub opening_none : (opened : List Opened) (tables : List TableRows) (marks : List (List Mark)) (changes : List TableChange) → opened ≡ []
    → (tables_back opened tables ≡ tables) × (marks_back opened marks ≡ marks) × AreWithin (length tables) (changes_of opened) × (changes ++ changes_of opened ≡ changes) × HaveRoom opened
opening_none opened tables marks changes is =
    subst (λ opened. (tables_back opened tables ≡ tables) × (marks_back opened marks ≡ marks) × AreWithin (length tables) (changes_of opened) × (changes ++ changes_of opened ≡ changes) × HaveRoom opened) (sym is)
    (refl, refl, tt, append-nil changes, tt)
