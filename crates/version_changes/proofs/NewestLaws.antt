-- Each table's newest rows after changes of tables.
use Rattle.std.proofs.Common.{◌≡◌, ℕ, ◌+◌, ◌<◌, ◌==◌, Bool, true, false, cond, ◌&&◌, if◌then◌else◌, List, [], ◌∷◌, ◌++◌, map, filter, length, None, refl, sym, ◌∙◌, ap, ap₂, subst, append-nil, arith}
use Rattle.std.proofs.lemmas.Bool.Decides.{nat_tests}
use Rattle.std.proofs.lemmas.List.{map-append}
use Rattle.std.proofs.lemmas.List.Elements.{filter-append}
use Rattle.table_changes.specs.Changes.{RiseFrom, after_change, after_changes, rows_without}
use Rattle.table_changes.specs.declared.change.TableChange.{TableChange}
use Rattle.version_changes.specs.Changes.{ended_here, ends_behind, with_change, with_changes, with_ends}
use Rattle.version_lists.specs.Versions.{Version, begun_versions, ended_version, is_newest, is_open, newest_rows}
use Rattle.vtable.specs.declared.table.VRow.{VRow}

abbrev row_of : Version → VRow
row_of v = v.row

and_false : (a : Bool) → (a && false) ≡ false
and_false true = refl
and_false false = refl

and_left : (a b : Bool) → (a && b) ≡ true → a ≡ true
and_left true b h = refl
and_left false b h = h

eq_self : (n : ℕ) → (n == n) ≡ true
eq_self n = grind (arith, nat_tests)

none_without : (place : ℕ) (rows : List VRow) → rows_without place [] rows ≡ rows
none_without place [] = refl
none_without place (row ∷ rows) = refl

-- in the table itself

gone_by : (table k place e : ℕ) (ends : List ℕ) (v : Version) (versions : List Version) (rows : List VRow) (b : Bool) → is_newest table v ≡ true
    → newest_rows table versions ≡ rows_without (place + 1) (if b then ends else e ∷ ends) rows
    → newest_rows table ((if b then ended_version k v else v) ∷ versions) ≡ (if b then rows_without (place + 1) ends rows else v.row ∷ rows_without (place + 1) (e ∷ ends) rows)
gone_by table k place e ends v versions rows true is on =
    ap (λ b. map row_of (cond b (ended_version k v ∷ filter (is_newest table) versions) (filter (is_newest table) versions))) (and_false (v.table == table)) ∙ on
gone_by table k place e ends v versions rows false is on =
    ap (λ b. map row_of (cond b (v ∷ filter (is_newest table) versions) (filter (is_newest table) versions))) is ∙ ap (λ xs. v.row ∷ xs) on

here_gone : (table k place : ℕ) (ends : List ℕ) (v : Version) (versions : List Version) (rows : List VRow) → is_newest table v ≡ true
    → newest_rows table versions ≡ rows_without (place + 1) (ends_behind place ends) rows → newest_rows table (ended_here k place ends v ∷ versions) ≡ rows_without place ends (v.row ∷ rows)
here_gone table k place [] v versions rows is on =
    ap (λ b. map row_of (cond b (v ∷ filter (is_newest table) versions) (filter (is_newest table) versions))) is ∙ ap (λ xs. v.row ∷ xs) (on ∙ none_without (place + 1) rows)
here_gone table k place (e ∷ ends) v versions rows is on = gone_by table k place e ends v versions rows (e == place) is on

ends_by : (table k place : ℕ) (ends : List ℕ) (v : Version) (versions behind others : List Version) (b : Bool) → is_newest table v ≡ b
    → newest_rows table behind ≡ rows_without (place + 1) (ends_behind place ends) (newest_rows table versions) → newest_rows table others ≡ rows_without place ends (newest_rows table versions)
    → newest_rows table (if b then ended_here k place ends v ∷ behind else v ∷ others) ≡ rows_without place ends (newest_rows table (v ∷ versions))
ends_by table k place ends v versions behind others true is on other =
    here_gone table k place ends v behind (newest_rows table versions) is on
    ∙ sym (ap (λ b. rows_without place ends (map row_of (cond b (v ∷ filter (is_newest table) versions) (filter (is_newest table) versions)))) is)
ends_by table k place ends v versions behind others false is on other =
    ap (λ b. map row_of (cond b (v ∷ filter (is_newest table) others) (filter (is_newest table) others))) is ∙ other
    ∙ sym (ap (λ b. rows_without place ends (map row_of (cond b (v ∷ filter (is_newest table) versions) (filter (is_newest table) versions)))) is)

ends_newest : (table k place : ℕ) (ends : List ℕ) (versions : List Version) → newest_rows table (with_ends table k place ends versions) ≡ rows_without place ends (newest_rows table versions)
ends_newest table k place ends [] = refl
ends_newest table k place ends (v ∷ versions) =
    ends_by table k place ends v versions (with_ends table k (place + 1) (ends_behind place ends) versions) (with_ends table k place ends versions) (is_newest table v) refl
    (ends_newest table k (place + 1) (ends_behind place ends) versions) (ends_newest table k place ends versions)

-- in another table

apart : (m table number : ℕ) → (m == table) ≡ true → (table == number) ≡ false → (m == number) ≡ false
apart m table number h k = grind (arith, nat_tests)

here_by : (number k : ℕ) (v : Version) (b : Bool) → (v.table == number) ≡ false → is_newest number (if b then ended_version k v else v) ≡ false
here_by number k v true h = ap (λ b. b && false) h
here_by number k v false h = ap (λ b. b && is_open v.ends) h

here_other : (number k place : ℕ) (ends : List ℕ) (v : Version) → (v.table == number) ≡ false → is_newest number (ended_here k place ends v) ≡ false
here_other number k place [] v h = here_by number k v false h
here_other number k place (e ∷ ends) v h = here_by number k v (e == place) h

cons_by : (v : Version) (versions others : List Version) (b : Bool) → map row_of versions ≡ map row_of others → map row_of (cond b (v ∷ versions) versions) ≡ map row_of (cond b (v ∷ others) others)
cons_by v versions others true on = ap (λ xs. v.row ∷ xs) on
cons_by v versions others false on = on

other_by : (number k place : ℕ) (ends : List ℕ) (v : Version) (versions behind others : List Version) (b : Bool) → (b ≡ true → (v.table == number) ≡ false)
    → newest_rows number behind ≡ newest_rows number versions → newest_rows number others ≡ newest_rows number versions
    → newest_rows number (if b then ended_here k place ends v ∷ behind else v ∷ others) ≡ newest_rows number (v ∷ versions)
other_by number k place ends v versions behind others true apart on other =
    ap (λ b. map row_of (cond b (ended_here k place ends v ∷ filter (is_newest number) behind) (filter (is_newest number) behind))) (here_other number k place ends v (apart refl))
    ∙ on
    ∙ sym (ap (λ b. map row_of (cond b (v ∷ filter (is_newest number) versions) (filter (is_newest number) versions))) (here_by number k v false (apart refl)))
other_by number k place ends v versions behind others false apart on other = cons_by v (filter (is_newest number) others) (filter (is_newest number) versions) (is_newest number v) other

ends_other : (number table k place : ℕ) (ends : List ℕ) (versions : List Version) → (table == number) ≡ false → newest_rows number (with_ends table k place ends versions) ≡ newest_rows number versions
ends_other number table k place ends [] h = refl
ends_other number table k place ends (v ∷ versions) h =
    other_by number k place ends v versions (with_ends table k (place + 1) (ends_behind place ends) versions) (with_ends table k place ends versions) (is_newest table v)
    (λ is. apart v.table table number (and_left (v.table == table) (is_open v.ends) is) h)
    (ends_other number table k (place + 1) (ends_behind place ends) versions h) (ends_other number table k place ends versions h)

-- rows that begin

begun_rows : (number k table : ℕ) (rows : List VRow) → newest_rows table (begun_versions number k table rows) ≡ rows
begun_rows number k table [] = refl
begun_rows number k table (row ∷ rows) =
    let behind = filter (is_newest table) (begun_versions (number + 1) k table rows) in
    ap (λ b. map row_of (cond (b && true) (record { number = number; table = table; begins = k; ends = None; row = row } ∷ behind) behind)) (eq_self table)
    ∙ ap (λ xs. row ∷ xs) (begun_rows (number + 1) k table rows)

begun_other : (other number k table : ℕ) (rows : List VRow) → (table == other) ≡ false → newest_rows other (begun_versions number k table rows) ≡ []
begun_other other number k table [] h = refl
begun_other other number k table (row ∷ rows) h =
    let behind = filter (is_newest other) (begun_versions (number + 1) k table rows) in
    ap (λ b. map row_of (cond (b && true) (record { number = number; table = table; begins = k; ends = None; row = row } ∷ behind) behind)) h
    ∙ begun_other other (number + 1) k table rows h

newest_append : (number : ℕ) (one other : List Version) → newest_rows number (one ++ other) ≡ newest_rows number one ++ newest_rows number other
newest_append number one other = ap (map row_of) (filter-append (is_newest number) one other) ∙ map-append row_of (filter (is_newest number) one) (filter (is_newest number) other)

change_newest : (k next : ℕ) (change : TableChange) (versions : List Version) → newest_rows change.table (with_change k next change versions) ≡ after_change change (newest_rows change.table versions)
change_newest k next change versions =
    newest_append change.table (with_ends change.table k 0 change.ends versions) (begun_versions next k change.table change.begun)
    ∙ ap₂ (λ xs ys. xs ++ ys) (ends_newest change.table k 0 change.ends versions) (begun_rows next k change.table change.begun)

pub change_other : (number k next : ℕ) (change : TableChange) (versions : List Version) → (change.table == number) ≡ false → newest_rows number (with_change k next change versions) ≡ newest_rows number versions
change_other number k next change versions h =
    newest_append number (with_ends change.table k 0 change.ends versions) (begun_versions next k change.table change.begun)
    ∙ ap₂ (λ xs ys. xs ++ ys) (ends_other number change.table k 0 change.ends versions h) (begun_other number next k change.table change.begun h)
    ∙ append-nil (newest_rows number versions)

-- of all tables

above : (m n : ℕ) → n < m → (m == n) ≡ false
above m n h = grind (arith, nat_tests)

same_of : (m n : ℕ) → (m == n) ≡ true → m ≡ n
same_of m n h = grind (arith, nat_tests)

later : (number low : ℕ) (changes : List TableChange) (rows : List VRow) → number < low → RiseFrom low changes → after_changes number changes rows ≡ rows
later number low [] rows h rise = refl
later number low (change ∷ changes) rows h rise =
    let a = rise.0 in
    ap (λ b. if b then after_change change rows else after_changes number changes rows) (above change.table number (omega (arith, a, h)))
    ∙ later number (change.table + 1) changes rows (omega (arith, a, h)) rise.1

one_by : (number k next : ℕ) (change : TableChange) (changes : List TableChange) (versions : List Version) (b : Bool) → (change.table == number) ≡ b → RiseFrom (change.table + 1) changes
    → after_changes number changes (newest_rows number (with_change k next change versions)) ≡ (if b then after_change change (newest_rows number versions) else after_changes number changes (newest_rows number versions))
one_by number k next change changes versions true is rise =
    let same : change.table ≡ number = same_of change.table number is in
    later number (change.table + 1) changes (newest_rows number (with_change k next change versions)) (omega (arith, same)) rise
    ∙ subst (λ n. newest_rows n (with_change k next change versions) ≡ after_change change (newest_rows n versions)) same (change_newest k next change versions)
one_by number k next change changes versions false is rise = ap (after_changes number changes) (change_other number k next change versions is)

pub changes_newest : (low k next number : ℕ) (changes : List TableChange) (versions : List Version) → RiseFrom low changes
    → newest_rows number (with_changes k next changes versions) ≡ after_changes number changes (newest_rows number versions)
changes_newest low k next number [] versions rise = refl
changes_newest low k next number (change ∷ changes) versions rise =
    changes_newest (change.table + 1) k (next + length change.begun) number changes (with_change k next change versions) rise.1
    ∙ one_by number k next change changes versions (change.table == number) refl rise.1
