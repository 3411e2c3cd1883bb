-- A commit leaves what each older snapshot sees, and so does clean-up for those from the oldest live one on.
use Rattle.std.proofs.Common.{◌≡◌, ℕ, ◌+◌, ◌<◌, ◌≤◌, ◌==◌, Bool, true, false, cond, not, ◌&&◌, if◌then◌else◌, List, [], ◌∷◌, ◌++◌, map, filter, Option, Some, None, nat_le, slice_get, MatchBool, refl, sym, ◌∙◌, ap, ap₂, arith, rules, ◌⊎◌, inl, inr}
use Rattle.std.proofs.lemmas.Bool.Decides.{nat_tests}
use Rattle.std.proofs.lemmas.List.{map-append}
use Rattle.std.proofs.lemmas.List.Elements.{filter-append}
use Rattle.feature_expr.specs.declared.expr.Expr.{Expr}
use Rattle.stored_versions.specs.Catalogues.{catalog_after, written_number}
use Rattle.write_meaning.specs.RowWrites.{IsFate, begun}
use Rattle.write_meaning.specs.TakenWrites.{is_taken}
use Rattle.version_lists.specs.Versions.{Version, begun_versions, ended_version, sees, ended_at, without_end, seen_at, is_open, is_newest, may_stay, may_stay_by, cleaned, EndsBy, IsPlaced}
use Rattle.std.specs.List.{AllByRecursion}
use Rattle.stored_versions.specs.VersionWrites.{Held, AreVersionFates, by_fate, ended_in, IsTableWrite, WritesTable, WritesNumber, Writes}
use Rattle.vra_syntax.specs.declared.write.Write.{Write}
use Rattle.vschema.specs.declared.catalog.Catalog.{Catalog}
use Rattle.vschema.specs.declared.catalog.Table.{Table}
use Rattle.vtable.specs.declared.table.VRow.{VRow}
use Rattle.write_meaning.specs.declared.fate.Fate.{Fate}
use Rattle.write_meaning.specs.declared.fate.Fate.TheVariants.{Stays, Ends}

too_late : (s k : ℕ) → s < k → nat_le k s ≡ false
too_late s k h = grind (arith, nat_tests)

seen_append : (s : ℕ) (xs ys : List Version) → seen_at s (xs ++ ys) ≡ seen_at s xs ++ seen_at s ys
seen_append s xs ys = ap (map without_end) (filter-append (sees s) xs ys) ∙ map-append without_end (filter (sees s) xs) (filter (sees s) ys)

-- what one version is to a snapshot, by whether it sees it
abbrev shown_by : Bool → Version → List Version
shown_by b v = map without_end (cond b (v ∷ []) [])

ended_same : (begins s k : ℕ) (ends : Option ℕ) → s < k → is_open ends ≡ true → (nat_le begins s && not (ended_at s (Some k))) ≡ (nat_le begins s && not (ended_at s ends))
ended_same begins s k None h o = ap (λ b. nat_le begins s && not b) (too_late s k h)
ended_same begins s k (Some other) h o = search rules

not_begun : (begins s : ℕ) (ends : Option ℕ) → s < begins → (nat_le begins s && not (ended_at s ends)) ≡ false
not_begun begins s ends h = ap (λ b. b && not (ended_at s ends)) (too_late s begins h)

eq_of : (a b : ℕ) → (a == b) ≡ true → a ≡ b
eq_of a b h = grind (arith, nat_tests)

unseen : (s : ℕ) (v : Version) → s < v.begins → seen_at s (v ∷ []) ≡ []
unseen s v h = ap (λ b. shown_by b v) (not_begun v.begins s v.ends h)

shown_ended : (k : ℕ) (v : Version) (b : Bool) → map without_end (cond b (ended_version k v ∷ []) []) ≡ shown_by b v
shown_ended k v true = refl
shown_ended k v false = refl

ended_seen : (s k : ℕ) (v : Version) → s < k → is_open v.ends ≡ true → (b : Bool) → (v.begins == k) ≡ b → seen_at s (if b then [] else ended_version k v ∷ []) ≡ seen_at s (v ∷ [])
ended_seen s k v h o true is = sym (unseen s v (let same = eq_of v.begins k is in omega (arith, same, h)))
ended_seen s k v h o false is = shown_ended k v (sees s (ended_version k v)) ∙ ap (λ b. shown_by b v) (ended_same v.begins s k v.ends h o)

fate_seen : (s k : ℕ) (fate : Fate) (v : Version) → s < k → (is_open v.ends ≡ true) ⊎ (fate ≡ Stays) → seen_at s (by_fate k fate v) ≡ seen_at s (v ∷ [])
fate_seen s k Stays v h o = refl
fate_seen s k (Ends rows) v h (inl o) = ended_seen s k v h o (v.begins == k) refl
fate_seen s k (Ends rows) v h (inr o) = search rules

and_second : (a b : Bool) → (a && b) ≡ true → b ≡ true
and_second true b h = h
and_second false b h = search rules

newest_by : (model : Expr) (table : Table) (w : Write) (v : Version) (fate : Fate) (number : ℕ) (b : Bool) → is_newest number v ≡ b → MatchBool b (IsFate model table w v.row fate) (fate ≡ Stays) → (is_open v.ends ≡ true) ⊎ (fate ≡ Stays)
newest_by model table w v fate number true is h = inl (and_second (v.table == number) (is_open v.ends) is)
newest_by model table w v fate number false is h = inr h

ended_in_seen : (model : Expr) (number : ℕ) (table : Table) (w : Write) (s k : ℕ) → s < k → (versions : List Version) (fates : List Fate) → AreVersionFates model number table w versions fates → seen_at s (ended_in k versions fates) ≡ seen_at s versions
ended_in_seen model number table w s k h [] [] are = refl
ended_in_seen model number table w s k h [] (fate ∷ fates) are = absurd are
ended_in_seen model number table w s k h (v ∷ versions) [] are = absurd are
ended_in_seen model number table w s k h (v ∷ versions) (fate ∷ fates) are =
    seen_append s (by_fate k fate v) (ended_in k versions fates)
    ∙ ap₂ (λ xs ys. xs ++ ys) (fate_seen s k fate v h (newest_by model table w v fate number (is_newest number v) refl are.0)) (ended_in_seen model number table w s k h versions fates are.1)
    ∙ sym (seen_append s (v ∷ []) versions)

begun_unseen : (s k number table : ℕ) (rows : List VRow) → s < k → seen_at s (begun_versions number k table rows) ≡ []
begun_unseen s k number table [] h = refl
begun_unseen s k number table (row ∷ rows) h =
    seen_append s (record { number = number; table = table; begins = k; ends = None; row = row } ∷ []) (begun_versions (number + 1) k table rows)
    ∙ ap₂ (λ xs ys. xs ++ ys) (unseen s (record { number = number; table = table; begins = k; ends = None; row = row }) h) (begun_unseen s k (number + 1) table rows h)

append_none : (xs ys : List Version) → ys ≡ [] → xs ++ ys ≡ xs
append_none [] ys h = h
append_none (x ∷ xs) ys h = ap (λ zs. x ∷ zs) (append_none xs ys h)

table_write_seen : (model : Expr) (k number : ℕ) (table : Table) (w : Write) (old new : Held) (s : ℕ) → s < k → IsTableWrite model k number table w old new → seen_at s new.versions ≡ seen_at s old.versions
table_write_seen model k number table w old new s h it =
    ap (seen_at s) it.versions
    ∙ seen_append s (ended_in k old.versions it.fates) (begun_versions old.next k number (begun model table w it.fates))
    ∙ append_none (seen_at s (ended_in k old.versions it.fates)) (seen_at s (begun_versions old.next k number (begun model table w it.fates))) (begun_unseen s k old.next number (begun model table w it.fates) h)
    ∙ ended_in_seen model number table w s k h old.versions it.fates it.are_fates

write_seen_in : (model : Expr) (k number : ℕ) (table : Option Table) (w : Write) (old new : Held) (s : ℕ) → s < k → WritesTable model k number table w old new → seen_at s new.versions ≡ seen_at s old.versions
write_seen_in model k number None w old new s h it = ap (λ (held : Held). seen_at s held.versions) it
write_seen_in model k number (Some table) w old new s h it = table_write_seen model k number table w old new s h it

write_seen : (catalog : Catalog) (k : ℕ) (number : Option ℕ) (w : Write) (old new : Held) (s : ℕ) → s < k → WritesNumber catalog k number w old new → seen_at s new.versions ≡ seen_at s old.versions
write_seen catalog k None w old new s h it = ap (λ (held : Held). seen_at s held.versions) it
write_seen catalog k (Some number) w old new s h it = write_seen_in catalog.model k number (slice_get catalog.tables number) w old new s h it

writes_seen_by : (k : ℕ) (catalog : Catalog) (w : Write) (writes : List Write) (old new : Held) (s : ℕ) → s < k
    → ((later : Catalog) (mid : Held) → Writes k later writes mid new → seen_at s new.versions ≡ seen_at s mid.versions) → (b : Bool)
    → MatchBool b ((mid : Held) × WritesNumber catalog k (written_number catalog w) w old mid × Writes k (catalog_after catalog w) writes mid new) (Writes k catalog writes old new)
    → seen_at s new.versions ≡ seen_at s old.versions
writes_seen_by k catalog w writes old new s h on true it = on (catalog_after catalog w) it.0 it.2 ∙ write_seen catalog k (written_number catalog w) w old it.0 s h it.1
writes_seen_by k catalog w writes old new s h on false it = on catalog old it

-- A commit leaves what each snapshot before it sees.
pub commit_seen : (k : ℕ) (writes : List Write) (catalog : Catalog) (old new : Held) (s : ℕ) → s < k → Writes k catalog writes old new → seen_at s new.versions ≡ seen_at s old.versions
commit_seen k [] catalog old new s h it = ap (λ (held : Held). seen_at s held.versions) it
commit_seen k (w ∷ writes) catalog old new s h it =
    writes_seen_by k catalog w writes old new s h (λ later mid rest. commit_seen k writes later mid new s h rest) (is_taken catalog w) it

-- Clean-up.

dropped_unseen : (least s begins : ℕ) (ends : Option ℕ) → least ≤ s → may_stay_by (Some least) ends ≡ false → (nat_le begins s && not (ended_at s ends)) ≡ false
dropped_unseen least s begins None h gone = search rules
dropped_unseen least s begins (Some k) h gone =
    let ended : nat_le k s ≡ true = grind (arith, nat_tests) in
    ap (λ b. nat_le begins s && not b) ended ∙ and_no (nat_le begins s) where
      and_no : (b : Bool) → (b && false) ≡ false
      and_no true = refl
      and_no false = refl

kept_by : (least s : ℕ) (v : Version) (versions : List Version) (b : Bool) → least ≤ s → may_stay (Some least) v ≡ b → seen_at s (cleaned (Some least) versions) ≡ seen_at s versions
    → seen_at s (cond b (v ∷ cleaned (Some least) versions) (cleaned (Some least) versions)) ≡ seen_at s (v ∷ versions)
kept_by least s v versions true h is rest = seen_append s (v ∷ []) (cleaned (Some least) versions) ∙ ap (λ xs. seen_at s (v ∷ []) ++ xs) rest ∙ sym (seen_append s (v ∷ []) versions)
kept_by least s v versions false h is rest =
    rest ∙ ap (λ b. map without_end (cond b (v ∷ filter (sees s) versions) (filter (sees s) versions))) (sym (dropped_unseen least s v.begins v.ends h is))

-- Clean-up leaves what every snapshot from the oldest live one on sees.
pub cleaned_seen : (least s : ℕ) (versions : List Version) → least ≤ s → seen_at s (cleaned (Some least) versions) ≡ seen_at s versions
cleaned_seen least s [] h = refl
cleaned_seen least s (v ∷ versions) h = kept_by least s v versions (may_stay (Some least) v) h refl (cleaned_seen least s versions h)

all_ended_unseen : (s begins : ℕ) (ends : Option ℕ) → EndsBy s begins ends → may_stay_by None ends ≡ false → (nat_le begins s && not (ended_at s ends)) ≡ false
all_ended_unseen s begins None h gone = search rules
all_ended_unseen s begins (Some k) h gone =
    let within : k ≤ s = h.1 in
    let ended : nat_le k s ≡ true = grind (arith, nat_tests) in
    ap (λ b. nat_le begins s && not b) ended ∙ and_no (nat_le begins s) where
      and_no : (b : Bool) → (b && false) ≡ false
      and_no true = refl
      and_no false = refl

kept_none_by : (s : ℕ) (v : Version) (versions : List Version) (b : Bool) → IsPlaced s v → may_stay None v ≡ b → seen_at s (cleaned None versions) ≡ seen_at s versions
    → seen_at s (cond b (v ∷ cleaned None versions) (cleaned None versions)) ≡ seen_at s (v ∷ versions)
kept_none_by s v versions true h is rest = seen_append s (v ∷ []) (cleaned None versions) ∙ ap (λ xs. seen_at s (v ∷ []) ++ xs) rest ∙ sym (seen_append s (v ∷ []) versions)
kept_none_by s v versions false h is rest =
    rest ∙ ap (λ b. map without_end (cond b (v ∷ filter (sees s) versions) (filter (sees s) versions))) (sym (all_ended_unseen s v.begins v.ends h is))

-- Where no snapshot lives, clean-up leaves what the next one sees.
pub cleaned_none_seen : (s : ℕ) (versions : List Version) → AllByRecursion (IsPlaced s) versions → seen_at s (cleaned None versions) ≡ seen_at s versions
cleaned_none_seen s [] h = refl
cleaned_none_seen s (v ∷ versions) h = kept_none_by s v versions (may_stay None v) h.0 refl (cleaned_none_seen s versions h.1)
