-- How a check of a catalogue ends, and what a catalogue is that passed it.
use Rattle.std.specs.Prelude.{◌≡◌, ◌⊎◌, ℕ, ◌≤◌, List, length}
use Rattle.std.specs.Io.KnownBytes.{Appends}
use Rattle.causes.specs.Faults.{Rose}
use Rattle.causes.specs.Told.{IsContent}
use Rattle.vschema.specs.Files.{IsCatalogue}
use Rattle.vschema.specs.declared.catalog.Catalog.{Catalog}
use Rattle.vschema.specs.declared.catalog.OpeningRow.{OpeningRow}
use Rattle.vra_types.specs.Check as check
use Rattle.vra_types.specs.Check.{Passes}
use Rattle.vra_types.specs.declared.refused.CheckRefused.TheVariants as unpassed
use Rattle.top_calls.specs.CheckLines.{passed_line}
use Rattle.top_calls.specs.Exits.{IsRefusedFile}
use Rattle.top_calls.specs.Replays.{PutsFront}
use Rattle.top_calls.specs.Sinks.{Held}
use Rattle.top_calls.specs.Sources.{AreSure, Files, IsLong, MayFail, file_limit}
use Rattle.top_calls.specs.declared.exit.CatalogueFault.TheVariants as fault
use Rattle.top_calls.specs.declared.exit.Exit.{Exit}
use Rattle.top_calls.specs.declared.exit.Exit.TheVariants as exit

-- the file was read whole, and its content is this catalogue with these opening rows, which pass their check
pub record IsCheckedFile (files : Files) (name : List ℕ) (catalog : Catalog) (rows : List OpeningRow) : Type 0 where
  pub bytes : List ℕ
  pub content : IsContent files.contents name bytes
  pub within : length bytes ≤ file_limit
  pub spelled : IsCatalogue bytes catalog rows
  pub passes : Passes catalog rows

-- the file was read whole and is a catalogue that passes its check
pub record IsChecked (files : Files) (name : List ℕ) : Type 0 where
  pub catalog : Catalog
  pub rows : List OpeningRow
  pub checked : IsCheckedFile files name catalog rows

-- bytes that are a catalogue with opening rows that passes its check
pub record ArePassing (bytes : List ℕ) : Type 0 where
  pub catalog : Catalog
  pub rows : List OpeningRow
  pub spelled : IsCatalogue bytes catalog rows
  pub passes : Passes catalog rows

-- two files are within the limit, and what the first is told to hold is a catalogue that passes its check
pub record HoldsPassing (files : Files) (catalogue stream : List ℕ) : Type 0 where
  pub short_catalogue : IsLong files.contents catalogue file_limit → ⊥
  pub short_stream : IsLong files.contents stream file_limit → ⊥
  pub passing : (bytes : List ℕ) → IsContent files.contents catalogue bytes → ArePassing bytes

-- Nothing stands in the way of a command: the reads are sure, or no count of faults rises, and the files are such.
pub record IsReady (before after : Files) (catalogue stream : List ℕ) (out out' : Held) : Type 0 where
  pub read : AreSure before catalogue stream ⊎ (Rose before.faults after.faults → ⊥)
  pub written : Rose out.faults out'.faults → ⊥
  pub holds : HoldsPassing before catalogue stream

-- the exits of a catalogue that was read and doesn't pass its check
abbrev pub IsUnpassedExit : Exit → Catalog → List OpeningRow → Type 0
IsUnpassedExit (exit.Catalogue (fault.Check unpassed.Memory catalog)) read rows = ⊥
IsUnpassedExit (exit.Catalogue (fault.Check why catalog)) read rows = (catalog ≡ read) × check.RefusesCatalogue catalog rows why
IsUnpassedExit exit.Memory read rows = Unit {0}
IsUnpassedExit _ read rows = ⊥

-- such a file, and its line was put
pub record IsTold (files : Files) (name : List ℕ) (before after : Held) : Type 0 where
  pub catalog : Catalog
  pub rows : List OpeningRow
  pub checked : IsCheckedFile files name catalog rows
  pub put : Appends before.bytes after.bytes (passed_line catalog rows)

-- such a file, and the first bytes of its line were put
pub record IsToldInPart (files : Files) (name : List ℕ) (before after : Held) : Type 0 where
  pub catalog : Catalog
  pub rows : List OpeningRow
  pub checked : IsCheckedFile files name catalog rows
  pub put : PutsFront (passed_line catalog rows) before.bytes after.bytes

-- what each exit of a check says of the bytes that were put
abbrev pub IsToldExit : Files → List ℕ → Exit → Held → Held → Type 0
IsToldExit files name exit.Done before after = IsTold files name before after
IsToldExit files name exit.WriteFault before after = IsToldInPart files name before after
IsToldExit files name other before after = after ≡ before

-- the exits of a check, with their causes
abbrev pub IsCheckExit : Files → List ℕ → Exit → Files → Held → Held → Type 0
IsCheckExit before name exit.Done after out out' = IsTold before name out out'
IsCheckExit before name (exit.Catalogue why) after out out' = IsRefusedFile before name why × (out' ≡ out)
IsCheckExit before name exit.ReadFault after out out' = Rose before.faults after.faults × MayFail before name × (out' ≡ out)
IsCheckExit before name exit.WriteFault after out out' = Rose out.faults out'.faults × IsToldInPart before name out out'
IsCheckExit before name exit.TooLong after out out' = IsLong before.contents name file_limit × (out' ≡ out)
IsCheckExit before name exit.Memory after out out' = out' ≡ out
IsCheckExit before name _ after out out' = ⊥
