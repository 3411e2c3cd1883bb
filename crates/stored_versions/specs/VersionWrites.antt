-- What a commit makes of the versions: each that one of its writes touches ends at its place, and others begin there.
use Rattle.std.specs.Prelude.{ℕ, ◌+◌, ◌==◌, ◌≡◌, List, [], ◌∷◌, ◌++◌, length, Option, Some, None, slice_get, if◌then◌else◌, MatchBool}
use Rattle.feature_expr.specs.declared.expr.Expr.{Expr}
use Rattle.stored_versions.specs.Catalogues.{catalog_after, written_number}
use Rattle.write_meaning.specs.RowWrites.{IsFate, begun}
use Rattle.write_meaning.specs.TakenWrites.{is_taken}
use Rattle.version_lists.specs.Versions.{Version, begun_versions, ended_version, is_newest}
use Rattle.vra_syntax.specs.declared.write.Write.{Write}
use Rattle.vschema.specs.declared.catalog.Catalog.{Catalog}
use Rattle.vschema.specs.declared.catalog.Table.{Table}
use Rattle.vtable.specs.declared.table.VRow.{VRow}
use Rattle.write_meaning.specs.declared.fate.Fate.{Fate}
use Rattle.write_meaning.specs.declared.fate.Fate.TheVariants.{Stays, Ends}

-- the versions, and the number of the next one
pub record Held : Type 0 where
  pub versions : List Version
  pub next : ℕ

-- a write looks at the newest versions of its table alone
abbrev pub IsVersionFate : Expr → ℕ → Table → Write → Version → Fate → Type 0
IsVersionFate model number table w v fate = MatchBool (is_newest number v) (IsFate model table w v.row fate) (fate ≡ Stays)

abbrev pub AreVersionFates : Expr → ℕ → Table → Write → List Version → List Fate → Type 0
AreVersionFates model number table w [] [] = Unit {0}
AreVersionFates model number table w (v ∷ versions) (fate ∷ fates) = IsVersionFate model number table w v fate × AreVersionFates model number table w versions fates
AreVersionFates model number table w versions fates = ⊥

-- A version that ends where it began is seen by no snapshot, and isn't kept.
abbrev pub by_fate : ℕ → Fate → Version → List Version
by_fate k Stays v = v ∷ []
by_fate k (Ends rows) v = if v.begins == k then [] else ended_version k v ∷ []

abbrev pub ended_in : ℕ → List Version → List Fate → List Version
ended_in k [] fates = []
ended_in k (v ∷ versions) [] = v ∷ versions
ended_in k (v ∷ versions) (fate ∷ fates) = by_fate k fate v ++ ended_in k versions fates

-- a write of the k-th commit to the table with this number
pub record IsTableWrite (model : Expr) (k number : ℕ) (table : Table) (w : Write) (old new : Held) : Type 0 where
  pub fates : List Fate
  pub are_fates : AreVersionFates model number table w old.versions fates
  pub versions : new.versions ≡ ended_in k old.versions fates ++ begun_versions old.next k number (begun model table w fates)
  pub next : new.next ≡ old.next + length (begun model table w fates)

abbrev pub WritesTable : Expr → ℕ → ℕ → Option Table → Write → Held → Held → Type 0
WritesTable model k number None w old new = new ≡ old
WritesTable model k number (Some table) w old new = IsTableWrite model k number table w old new

abbrev pub WritesNumber : Catalog → ℕ → Option ℕ → Write → Held → Held → Type 0
WritesNumber catalog k None w old new = new ≡ old
WritesNumber catalog k (Some number) w old new = WritesTable catalog.model k number (slice_get catalog.tables number) w old new

-- the writes of the k-th commit, one after another; one that doesn't count is left out
abbrev pub Writes : ℕ → Catalog → List Write → Held → Held → Type 0
Writes k catalog [] old new = new ≡ old
Writes k catalog (w ∷ writes) old new =
    MatchBool (is_taken catalog w)
    ((mid : Held) × WritesNumber catalog k (written_number catalog w) w old mid × Writes k (catalog_after catalog w) writes mid new)
    (Writes k catalog writes old new)
