-- What a snapshot of fewer commits sees stays as it was.
use Rattle.std.proofs.Common.{◌≡◌, ℕ, ◌+◌, ◌<◌, ◌==◌, Bool, true, false, true≢false, cond, not, ◌&&◌, if◌then◌else◌, List, [], ◌∷◌, ◌++◌, map, filter, length, Option, Some, None, nat_le, refl, sym, ◌∙◌, ap, ap₂, append-nil, arith}
use Rattle.std.proofs.lemmas.Bool.Decides.{nat_tests}
use Rattle.std.proofs.lemmas.List.Elements.{filter-append}
use Rattle.table_changes.specs.declared.change.TableChange.{TableChange}
use Rattle.version_changes.specs.Changes.{ended_here, ends_behind, with_change, with_changes, with_ends}
use Rattle.version_lists.specs.Versions.{Version, begun_versions, ended_at, ended_version, is_newest, is_open, seen_at, sees, without_end}
use Rattle.vtable.specs.declared.table.VRow.{VRow}

past : (s k : ℕ) → s < k → nat_le k s ≡ false
past s k h = grind (arith, nat_tests)

and_right : (a b : Bool) → (a && b) ≡ true → b ≡ true
and_right true b h = h
and_right false true h = refl
and_right false false h = h

-- a newest version has no end
pub newest_open : (table : ℕ) (v : Version) → is_newest table v ≡ true → is_open v.ends ≡ true
newest_open table v h = and_right (v.table == table) (is_open v.ends) h

seen_cons : (s : ℕ) (v w : Version) (versions others : List Version) (b : Bool) → without_end v ≡ without_end w → seen_at s versions ≡ seen_at s others
    → map without_end (cond b (v ∷ filter (sees s) versions) (filter (sees s) versions)) ≡ map without_end (cond b (w ∷ filter (sees s) others) (filter (sees s) others))
seen_cons s v w versions others true same on = ap₂ (λ x xs. x ∷ xs) same on
seen_cons s v w versions others false same on = on

-- an end past what is seen is as none
open_seen : (s k : ℕ) (v : Version) (ends : Option ℕ) → v.ends ≡ ends → s < k → is_open ends ≡ true → sees s (ended_version k v) ≡ sees s v
open_seen s k v None is h o = ap (λ b. nat_le v.begins s && not b) (past s k h) ∙ sym (ap (λ ends. nat_le v.begins s && not (ended_at s ends)) is)
open_seen s k v (Some j) is h o = absurd (true≢false (sym o))

here_by : (s k : ℕ) (v : Version) (b : Bool) → s < k → is_open v.ends ≡ true → sees s (if b then ended_version k v else v) ≡ sees s v
here_by s k v true h o = open_seen s k v v.ends refl h o
here_by s k v false h o = refl

here_seen : (s k place : ℕ) (ends : List ℕ) (v : Version) → s < k → is_open v.ends ≡ true → sees s (ended_here k place ends v) ≡ sees s v
here_seen s k place [] v h o = refl
here_seen s k place (e ∷ ends) v h o = here_by s k v (e == place) h o

same_by : (k : ℕ) (v : Version) (b : Bool) → without_end (if b then ended_version k v else v) ≡ without_end v
same_by k v true = refl
same_by k v false = refl

here_same : (k place : ℕ) (ends : List ℕ) (v : Version) → without_end (ended_here k place ends v) ≡ without_end v
here_same k place [] v = refl
here_same k place (e ∷ ends) v = same_by k v (e == place)

with_by : (s k place : ℕ) (ends : List ℕ) (v : Version) (versions behind others : List Version) (b : Bool) → (b ≡ true → is_open v.ends ≡ true) → s < k → seen_at s behind ≡ seen_at s versions → seen_at s others ≡ seen_at s versions
    → seen_at s (if b then ended_here k place ends v ∷ behind else v ∷ others) ≡ seen_at s (v ∷ versions)
with_by s k place ends v versions behind others true o h on other =
    ap (λ b. map without_end (cond b (ended_here k place ends v ∷ filter (sees s) behind) (filter (sees s) behind))) (here_seen s k place ends v h (o refl))
    ∙ seen_cons s (ended_here k place ends v) v behind versions (sees s v) (here_same k place ends v) on
with_by s k place ends v versions behind others false o h on other = seen_cons s v v others versions (sees s v) refl other

ends_seen : (s table k place : ℕ) (ends : List ℕ) (versions : List Version) → s < k → seen_at s (with_ends table k place ends versions) ≡ seen_at s versions
ends_seen s table k place ends [] h = refl
ends_seen s table k place ends (v ∷ versions) h =
    with_by s k place ends v versions (with_ends table k (place + 1) (ends_behind place ends) versions) (with_ends table k place ends versions) (is_newest table v) (newest_open table v) h
    (ends_seen s table k (place + 1) (ends_behind place ends) versions h) (ends_seen s table k place ends versions h)

begun_unseen : (s k number table : ℕ) (rows : List VRow) → s < k → filter (sees s) (begun_versions number k table rows) ≡ []
begun_unseen s k number table [] h = refl
begun_unseen s k number table (row ∷ rows) h =
    ap₂ (λ b xs. cond (b && true) (record { number = number; table = table; begins = k; ends = None; row = row } ∷ xs) xs) (past s k h) (begun_unseen s k (number + 1) table rows h)

change_seen : (s k next : ℕ) (change : TableChange) (versions : List Version) → s < k → seen_at s (with_change k next change versions) ≡ seen_at s versions
change_seen s k next change versions h =
    let stay = with_ends change.table k 0 change.ends versions in
    let begun = begun_versions next k change.table change.begun in
    ap (map without_end) (filter-append (sees s) stay begun ∙ ap (λ xs. filter (sees s) stay ++ xs) (begun_unseen s k next change.table change.begun h) ∙ append-nil (filter (sees s) stay))
    ∙ ends_seen s change.table k 0 change.ends versions h

pub changes_seen : (s k next : ℕ) (changes : List TableChange) (versions : List Version) → s < k → seen_at s (with_changes k next changes versions) ≡ seen_at s versions
changes_seen s k next [] versions h = refl
changes_seen s k next (change ∷ changes) versions h =
    changes_seen s k (next + length change.begun) changes (with_change k next change versions) h ∙ change_seen s k next change versions h
