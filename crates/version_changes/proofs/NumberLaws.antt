-- Changed versions are numbered as before, those that begin stand behind, and each is placed by this commit.
use Rattle.std.proofs.Common.{◌≡◌, ℕ, ◌+◌, ◌<◌, ◌≤◌, ◌==◌, Bool, true, false, true≢false, ◌&&◌, if◌then◌else◌, List, [], ◌∷◌, ◌++◌, length, Option, Some, None, refl, sym, subst, arith}
use Rattle.std.specs.List.{AllByRecursion}
use Rattle.std.proofs.lemmas.Bool.Decides.{nat_tests}
use Rattle.table_changes.specs.Changes.{RiseFrom}
use Rattle.table_changes.specs.declared.change.TableChange.{TableChange}
use Rattle.version_changes.proofs.SeenLaws.{newest_open}
use Rattle.version_changes.specs.Changes.{begun_count, ended_here, ends_behind, with_change, with_changes, with_ends}
use Rattle.version_lists.proofs.MoveLaws.{all_append}
use Rattle.version_lists.specs.Orders.{AreLower}
use Rattle.version_lists.specs.Versions.{AreNumbered, EndsBy, IsPlaced, Version, begun_versions, ended_version, is_newest, is_open}
use Rattle.vtable.specs.declared.table.VRow.{VRow}

-- numbers stay

number_by : (k : ℕ) (v : Version) (b : Bool) → (if b then ended_version k v else v).number ≡ v.number
number_by k v true = refl
number_by k v false = refl

pub here_number : (k place : ℕ) (ends : List ℕ) (v : Version) → (ended_here k place ends v).number ≡ v.number
here_number k place [] v = refl
here_number k place (e ∷ ends) v = number_by k v (e == place)

numbered_by : (low k place : ℕ) (ends : List ℕ) (v : Version) (behind others : List Version) (b : Bool) → low ≤ v.number → AreNumbered (v.number + 1) behind → AreNumbered (v.number + 1) others
    → AreNumbered low (if b then ended_here k place ends v ∷ behind else v ∷ others)
numbered_by low k place ends v behind others true h on other = subst (λ n. (low ≤ n) × AreNumbered (n + 1) behind) (sym (here_number k place ends v)) (h, on)
numbered_by low k place ends v behind others false h on other = (h, other)

pub ends_numbered : (low table k place : ℕ) (ends : List ℕ) (versions : List Version) → AreNumbered low versions → AreNumbered low (with_ends table k place ends versions)
ends_numbered low table k place ends [] h = tt
ends_numbered low table k place ends (v ∷ versions) h =
    numbered_by low k place ends v (with_ends table k (place + 1) (ends_behind place ends) versions) (with_ends table k place ends versions) (is_newest table v) h.0
    (ends_numbered (v.number + 1) table k (place + 1) (ends_behind place ends) versions h.1) (ends_numbered (v.number + 1) table k place ends versions h.1)

lower_by : (high k place : ℕ) (ends : List ℕ) (v : Version) (behind others : List Version) (b : Bool) → v.number < high → AreLower high behind → AreLower high others
    → AreLower high (if b then ended_here k place ends v ∷ behind else v ∷ others)
lower_by high k place ends v behind others true h on other = (subst (λ n. n < high) (sym (here_number k place ends v)) h, on)
lower_by high k place ends v behind others false h on other = (h, other)

pub ends_lower : (high table k place : ℕ) (ends : List ℕ) (versions : List Version) → AreLower high versions → AreLower high (with_ends table k place ends versions)
ends_lower high table k place ends [] h = tt
ends_lower high table k place ends (v ∷ versions) h =
    lower_by high k place ends v (with_ends table k (place + 1) (ends_behind place ends) versions) (with_ends table k place ends versions) (is_newest table v) h.0
    (ends_lower high table k (place + 1) (ends_behind place ends) versions h.1) (ends_lower high table k place ends versions h.1)

-- those that begin stand behind

pub begun_numbered : (low next k table : ℕ) (rows : List VRow) → low ≤ next → AreNumbered low (begun_versions next k table rows)
begun_numbered low next k table [] h = tt
begun_numbered low next k table (row ∷ rows) h = (h, begun_numbered (next + 1) (next + 1) k table rows (omega arith))

numbered_behind : (low next : ℕ) (versions others : List Version) → low ≤ next → AreNumbered low versions → AreLower next versions → ((least : ℕ) → least ≤ next → AreNumbered least others) → AreNumbered low (versions ++ others)
numbered_behind low next [] others h numbered lower on = on low h
numbered_behind low next (v ∷ versions) others h numbered lower on =
    let b = lower.0 in (numbered.0, numbered_behind (v.number + 1) next versions others (omega (arith, b)) numbered.1 lower.1 on)

begun_lower : (high next k table : ℕ) (rows : List VRow) → next + length rows ≤ high → AreLower high (begun_versions next k table rows)
begun_lower high next k table [] h = tt
begun_lower high next k table (row ∷ rows) h = (omega (arith, h), begun_lower high (next + 1) k table rows (omega (arith, h)))

lower_up : (low high : ℕ) (versions : List Version) → low ≤ high → AreLower low versions → AreLower high versions
lower_up low high [] h k = tt
lower_up low high (v ∷ versions) h k = (let a = k.0 in omega (arith, a, h), lower_up low high versions h k.1)

lower_append : (high : ℕ) (one other : List Version) → AreLower high one → AreLower high other → AreLower high (one ++ other)
lower_append high [] other h k = k
lower_append high (v ∷ one) other h k = (h.0, lower_append high one other h.1 k)

pub change_numbered : (k next : ℕ) (change : TableChange) (versions : List Version) → AreNumbered 0 versions → AreLower next versions → AreNumbered 0 (with_change k next change versions)
change_numbered k next change versions numbered lower =
    numbered_behind 0 next (with_ends change.table k 0 change.ends versions) (begun_versions next k change.table change.begun) (omega arith)
    (ends_numbered 0 change.table k 0 change.ends versions numbered) (ends_lower next change.table k 0 change.ends versions lower)
    (λ least h. begun_numbered least next k change.table change.begun h)

pub change_lower : (k next : ℕ) (change : TableChange) (versions : List Version) → AreLower next versions → AreLower (next + length change.begun) (with_change k next change versions)
change_lower k next change versions lower =
    lower_append (next + length change.begun) (with_ends change.table k 0 change.ends versions) (begun_versions next k change.table change.begun)
    (lower_up next (next + length change.begun) (with_ends change.table k 0 change.ends versions) (omega arith) (ends_lower next change.table k 0 change.ends versions lower))
    (begun_lower (next + length change.begun) next k change.table change.begun (omega arith))

pub changes_numbered : (k next : ℕ) (changes : List TableChange) (versions : List Version) → AreNumbered 0 versions → AreLower next versions → AreNumbered 0 (with_changes k next changes versions)
changes_numbered k next [] versions numbered lower = numbered
changes_numbered k next (change ∷ changes) versions numbered lower =
    changes_numbered k (next + length change.begun) changes (with_change k next change versions) (change_numbered k next change versions numbered lower) (change_lower k next change versions lower)

pub changes_lower : (k next : ℕ) (changes : List TableChange) (versions : List Version) → AreLower next versions → AreLower (next + begun_count changes) (with_changes k next changes versions)
changes_lower k next [] versions lower = lower_up next (next + 0) versions (omega arith) lower
changes_lower k next (change ∷ changes) versions lower =
    subst (λ n. AreLower n (with_changes k (next + length change.begun) changes (with_change k next change versions))) (moved next (length change.begun) (begun_count changes))
    (changes_lower k (next + length change.begun) changes (with_change k next change versions) (change_lower k next change versions lower)) where
      moved : (a b c : ℕ) → a + b + c ≡ a + (b + c)
      moved a b c = omega arith

-- Each is placed by this commit. The newest rows of the tables that aren't changed yet began before it.
abbrev IsReady : ℕ → ℕ → Version → Type 0
IsReady k low v = IsPlaced k v × (is_open v.ends ≡ true → low ≤ v.table → v.begins < k)

ready_up : (k low high : ℕ) (versions : List Version) → low ≤ high → AllByRecursion (IsReady k low) versions → AllByRecursion (IsReady k high) versions
ready_up k low high [] h all = tt
ready_up k low high (v ∷ versions) h all = ((all.0.0, λ o le. all.0.1 o (omega (arith, h, le))), ready_up k low high versions h all.1)

ended_by : (k low : ℕ) (v : Version) (b : Bool) → IsReady k low v → v.begins < k → IsReady k low (if b then ended_version k v else v)
ended_by k low v true h less = ((less, omega arith), λ o le. absurd (true≢false (sym o)))
ended_by k low v false h less = h

here_ready : (k low place : ℕ) (ends : List ℕ) (v : Version) → IsReady k low v → v.begins < k → IsReady k low (ended_here k place ends v)
here_ready k low place [] v h less = h
here_ready k low place (e ∷ ends) v h less = ended_by k low v (e == place) h less

ready_by : (k low place : ℕ) (ends : List ℕ) (v : Version) (behind others : List Version) (b : Bool) → IsReady k low v → (b ≡ true → v.begins < k) → AllByRecursion (IsReady k low) behind → AllByRecursion (IsReady k low) others
    → AllByRecursion (IsReady k low) (if b then ended_here k place ends v ∷ behind else v ∷ others)
ready_by k low place ends v behind others true h less on other = (here_ready k low place ends v h (less refl), on)
ready_by k low place ends v behind others false h less on other = (h, other)

and_left : (a b : Bool) → (a && b) ≡ true → a ≡ true
and_left true b h = refl
and_left false b h = h

same_of : (m n : ℕ) → (m == n) ≡ true → m ≡ n
same_of m n h = grind (arith, nat_tests)

begins_before : (k low table : ℕ) (v : Version) → low ≤ table → IsReady k low v → is_newest table v ≡ true → v.begins < k
begins_before k low table v le h is =
    let same : v.table ≡ table = same_of v.table table (and_left (v.table == table) (is_open v.ends) is) in
    h.1 (newest_open table v is) (omega (arith, le, same))

ends_ready : (k low table place : ℕ) (ends : List ℕ) (versions : List Version) → low ≤ table → AllByRecursion (IsReady k low) versions → AllByRecursion (IsReady k low) (with_ends table k place ends versions)
ends_ready k low table place ends [] le h = tt
ends_ready k low table place ends (v ∷ versions) le h =
    ready_by k low place ends v (with_ends table k (place + 1) (ends_behind place ends) versions) (with_ends table k place ends versions) (is_newest table v) h.0
    (begins_before k low table v le h.0)
    (ends_ready k low table (place + 1) (ends_behind place ends) versions le h.1) (ends_ready k low table place ends versions le h.1)

begun_ready : (k number table : ℕ) (rows : List VRow) → AllByRecursion (IsReady k (table + 1)) (begun_versions number k table rows)
begun_ready k number table [] = tt
begun_ready k number table (row ∷ rows) = ((omega arith, λ o le. let never : ⊥ = omega (arith, le) in absurd never), begun_ready k (number + 1) table rows)

change_ready : (k low next : ℕ) (change : TableChange) (versions : List Version) → low ≤ change.table → AllByRecursion (IsReady k low) versions → AllByRecursion (IsReady k (change.table + 1)) (with_change k next change versions)
change_ready k low next change versions le h =
    all_append (IsReady k (change.table + 1)) (with_ends change.table k 0 change.ends versions) (begun_versions next k change.table change.begun)
    (ready_up k low (change.table + 1) (with_ends change.table k 0 change.ends versions) (omega (arith, le)) (ends_ready k low change.table 0 change.ends versions le h))
    (begun_ready k next change.table change.begun)

placed_of : (k low : ℕ) (versions : List Version) → AllByRecursion (IsReady k low) versions → AllByRecursion (IsPlaced k) versions
placed_of k low [] h = tt
placed_of k low (v ∷ versions) h = (h.0.0, placed_of k low versions h.1)

all_placed : (k low next : ℕ) (changes : List TableChange) (versions : List Version) → RiseFrom low changes → AllByRecursion (IsReady k low) versions → AllByRecursion (IsPlaced k) (with_changes k next changes versions)
all_placed k low next [] versions rise h = placed_of k low versions h
all_placed k low next (change ∷ changes) versions rise h =
    all_placed k (change.table + 1) (next + length change.begun) changes (with_change k next change versions) rise.1 (change_ready k low next change versions rise.0 h)

ends_up : (applied begins : ℕ) (ends : Option ℕ) → EndsBy applied begins ends → EndsBy (applied + 1) begins ends × (is_open ends ≡ true → begins < applied + 1)
ends_up applied begins None h = (omega (arith, h), λ o. omega (arith, h))
ends_up applied begins (Some k) h = ((h.0, let b = h.1 in omega (arith, b)), λ o. absurd (true≢false (sym o)))

ready_of : (applied : ℕ) (versions : List Version) → AllByRecursion (IsPlaced applied) versions → AllByRecursion (IsReady (applied + 1) 0) versions
ready_of applied [] h = tt
ready_of applied (v ∷ versions) h = (let up = ends_up applied v.begins v.ends h.0 in (up.0, λ o le. up.1 o), ready_of applied versions h.1)

pub changes_placed : (applied next : ℕ) (changes : List TableChange) (versions : List Version) → RiseFrom 0 changes → AllByRecursion (IsPlaced applied) versions
    → AllByRecursion (IsPlaced (applied + 1)) (with_changes (applied + 1) next changes versions)
changes_placed applied next changes versions rise h = all_placed (applied + 1) 0 next changes versions rise (ready_of applied versions h)
