-- How the program ends: the statuses, the lines, and the cause of each exit.
use Rattle.std.specs.Prelude.{◌≡◌, ℕ, ◌≤◌, ◌⊎◌, Bool, false, List, [], ◌∷◌, ◌++◌, codes, decimal, length}
use Rattle.std.specs.Str.{bytes_eq}
use Rattle.causes.specs.Faults.{Rose}
use Rattle.causes.specs.Told.{IsContent}
use Rattle.vschema.specs.Refusals.{Refuses}
use Rattle.vschema.specs.declared.refused.CatalogRefused.{CatalogRefused}
use Rattle.vschema.specs.declared.refused.CatalogRefused.TheVariants as refused
use Rattle.vschema.specs.Files.{IsCatalogue}
use Rattle.vschema.specs.declared.catalog.Catalog.{Catalog}
use Rattle.vschema.specs.declared.catalog.OpeningRow.{OpeningRow}
use Rattle.vra_types.specs.Check as check
use Rattle.vra_types.specs.declared.refused.CheckRefused.{CheckRefused}
use Rattle.vra_types.specs.declared.refused.CheckRefused.TheVariants as unpassed
use Rattle.top_calls.specs.CheckLines.{check_line_of}
use Rattle.top_calls.specs.Sinks.{Held}
use Rattle.top_calls.specs.Sources.{AreSure, Files, IsLong, MayFail, file_limit}
use Rattle.top_calls.specs.declared.exit.CatalogueFault.{CatalogueFault}
use Rattle.top_calls.specs.declared.exit.CatalogueFault.TheVariants as fault
use Rattle.top_calls.specs.declared.exit.Exit.{Exit}
use Rattle.top_calls.specs.declared.exit.Exit.TheVariants as exit

abbrev pub status_of : Exit → ℕ
status_of exit.Done = 0
status_of exit.Usage = 1
status_of (exit.Catalogue why) = 2
status_of exit.ReadFault = 3
status_of exit.WriteFault = 4
status_of exit.LinksFault = 5
status_of exit.TurnsOut = 6
status_of exit.Memory = 7
status_of exit.TooLong = 8
status_of exit.KeeperFault = 9

-- the line of an exit that names no place
abbrev pub plain_line_of : Exit → List ℕ
plain_line_of exit.Done = []
plain_line_of exit.Usage = codes "usage"
plain_line_of (exit.Catalogue why) = codes "catalogue"
plain_line_of exit.ReadFault = codes "read fault"
plain_line_of exit.WriteFault = codes "write fault"
plain_line_of exit.LinksFault = codes "links fault"
plain_line_of exit.TurnsOut = codes "turns out"
plain_line_of exit.Memory = codes "out of memory"
plain_line_of exit.TooLong = codes "file too long"
plain_line_of exit.KeeperFault = codes "keeper fault"

-- a fault of the catalogue at a place
abbrev pub place_line : List ℕ → ℕ → List ℕ → List ℕ
place_line what place fault = codes "catalogue: " ++ what ++ decimal place ++ fault

-- the line for a catalogue that was refused
abbrev pub catalogue_line : CatalogRefused → List ℕ
catalogue_line (refused.Utf8 place) = place_line (codes "byte ") place (codes ": not UTF-8")
catalogue_line (refused.Syntax line) = place_line (codes "line ") line (codes ": syntax")
catalogue_line (refused.Duplicate line) = place_line (codes "line ") line (codes ": duplicate")
catalogue_line (refused.UnknownFeature line) = place_line (codes "line ") line (codes ": unknown feature")
catalogue_line (refused.UnknownName line) = place_line (codes "line ") line (codes ": unknown name")
catalogue_line (refused.WrongKind line) = place_line (codes "line ") line (codes ": wrong kind")
catalogue_line (refused.Limit line which) = place_line (codes "line ") line (codes ": limit")
catalogue_line refused.Memory = codes "out of memory"

-- the line for standard error
abbrev pub line_of : Exit → List ℕ
line_of (exit.Catalogue (fault.Parse why)) = catalogue_line why
line_of (exit.Catalogue (fault.Check why catalog)) = check_line_of catalog.features why
line_of other = plain_line_of other

-- whether the words are `replay` and the names of two files
abbrev pub is_replay : List (List ℕ) → Bool
is_replay (command ∷ catalogue ∷ stream ∷ []) = bytes_eq command (codes "replay")
is_replay _ = false

-- the names of the two files of a replay
abbrev pub catalogue_name : List (List ℕ) → List ℕ
catalogue_name (command ∷ catalogue ∷ rest) = catalogue
catalogue_name _ = []

abbrev pub stream_name : List (List ℕ) → List ℕ
stream_name (command ∷ catalogue ∷ stream ∷ rest) = stream
stream_name _ = []

-- whether the words are `check` and the name of a file
abbrev pub is_check : List (List ℕ) → Bool
is_check (command ∷ catalogue ∷ []) = bytes_eq command (codes "check")
is_check _ = false

-- the bytes are this catalogue with opening rows, and this is why they don't pass their check
pub record IsUnpassed (bytes : List ℕ) (catalog : Catalog) (why : CheckRefused) : Type 0 where
  pub rows : List OpeningRow
  pub spelled : IsCatalogue bytes catalog rows
  pub refused : check.RefusesCatalogue catalog rows why

-- why these bytes aren't taken: the reader's own refusal, or that of the check; want of memory is no such reason
abbrev pub RefusedFor : CatalogueFault → List ℕ → Type 0
RefusedFor (fault.Parse refused.Memory) bytes = ⊥
RefusedFor (fault.Parse why) bytes = Refuses why bytes
RefusedFor (fault.Check unpassed.Memory catalog) bytes = ⊥
RefusedFor (fault.Check why catalog) bytes = IsUnpassed bytes catalog why

-- the file has a content within the limit, where the contents are told
pub record IsReadable (files : Files) (name : List ℕ) : Type 0 where
  pub bytes : List ℕ
  pub content : IsContent files.contents name bytes
  pub within : length bytes ≤ file_limit

-- the file was read whole, and its bytes were refused for another cause than memory
pub record IsRefusedFile (files : Files) (name : List ℕ) (why : CatalogueFault) : Type 0 where
  pub bytes : List ℕ
  pub content : IsContent files.contents name bytes
  pub within : length bytes ≤ file_limit
  pub refused : RefusedFor why bytes

-- an exit with a catalogue's fault shows this of it
abbrev pub IfCatalogue : Exit → (CatalogueFault → Type 0) → Type 0
IfCatalogue (exit.Catalogue why) shown = shown why
IfCatalogue _ shown = Unit {0}

-- the exits of a read of a file, with their causes
abbrev pub IsReadExit : Files → List ℕ → Exit → Files → Type 0
IsReadExit before name exit.ReadFault after = Rose before.faults after.faults × MayFail before name
IsReadExit before name exit.TooLong after = IsLong before.contents name file_limit
IsReadExit before name exit.Memory after = Unit {0}
IsReadExit before name _ after = ⊥

-- the exits of reading a catalogue, with their causes
abbrev pub IsOpeningExit : Files → List ℕ → Exit → Files → Type 0
IsOpeningExit before name (exit.Catalogue why) after = IsRefusedFile before name why
IsOpeningExit before name other after = IsReadExit before name other after

-- No cause of a fault holds: the reads are sure, or no count of faults rises, the files are within the limit, and the
-- catalogue is refused for no cause. Over files whose contents aren't told nobody can know that.
pub record HasNoFault (before after : Files) (catalogue stream : List ℕ) (out out' : Held) : Type 0 where
  pub read : AreSure before catalogue stream ⊎ (Rose before.faults after.faults → ⊥)
  pub written : Rose out.faults out'.faults → ⊥
  pub short_catalogue : IsLong before.contents catalogue file_limit → ⊥
  pub short_stream : IsLong before.contents stream file_limit → ⊥
  pub taken : (why : CatalogueFault) → IsRefusedFile before catalogue why → ⊥

-- an exit that comes before the session is opened
abbrev pub IfUnopened : Exit → Type 0 → Type 0
IfUnopened exit.Usage fact = fact
IfUnopened (exit.Catalogue why) fact = fact
IfUnopened exit.ReadFault fact = fact
IfUnopened exit.TooLong fact = fact
IfUnopened _ fact = Unit {0}

-- the exits that the tool has; the others are a server's
abbrev pub IsToolExit : Exit → Type 0
IsToolExit exit.LinksFault = ⊥
IsToolExit exit.TurnsOut = ⊥
IsToolExit exit.KeeperFault = ⊥
IsToolExit _ = Unit {0}

-- the count of the files' faults rises at a read fault, and stays as it was at every other exit
abbrev pub CountsReads : Exit → ℕ → ℕ → Type 0
CountsReads exit.ReadFault before after = Rose before after
CountsReads _ before after = after ≡ before

-- and the count of the sink's faults rises at a write fault alone
abbrev pub CountsWrites : Exit → ℕ → ℕ → Type 0
CountsWrites exit.WriteFault before after = Rose before after
CountsWrites _ before after = after ≡ before
