-- What the objects in memory tell.
use Rattle.std.specs.Prelude.{◌≡◌, ℕ, ◌<◌, ◌≤◌, Bool, true, false, ◌&&◌, List, [], ◌∷◌, ◌++◌, Some, length, map}
use Rattle.std.specs.List.{list_any}
use Rattle.std.specs.Str.{bytes_eq}
use Rattle.top_calls.specs.Sources.{Files}
use Rattle.top_calls.specs.declared.source.FileGot.{FileGot}
use Rattle.top_calls.specs.declared.source.FileGot.TheVariants as got
use Rattle.tool_tests.specs.declared.mem_files.MemFile.{MemFile}
use Rattle.tool_tests.specs.declared.mem_files.MemFiles.{MemFiles}

-- a file's name and its content
abbrev pub file_of : MemFile → List ℕ × List ℕ
file_of file = (file.name, file.bytes)

-- whether a file of this name is there
abbrev pub is_there : List MemFile → List ℕ → Bool
is_there files name = list_any (λ (file : MemFile). bytes_eq file.name name) files

-- no call was to fail
abbrev pub none_fails : List ℕ → Bool
none_fails [] = true
none_fails (call ∷ calls) = false

-- A read is sure where no call was to fail and the name is there.
abbrev pub files_of : MemFiles → Files
files_of m = record {
  contents = Some (map file_of m.files);
  faults = m.faults;
  is_sure = λ name. none_fails m.failing && is_there m.files name;
}

-- a content of at most so many bytes goes behind the bytes `old`
abbrev pub PutsContent : List ℕ → ℕ → FileGot → List ℕ → List ℕ → Type 0
PutsContent content most got.Whole old new = (length content ≤ most) × (new ≡ old ++ content)
PutsContent content most got.TooLong old new = (most < length content) × (new ≡ old)
PutsContent content most got.Failed old new = ⊥
PutsContent content most got.Memory old new = new ≡ old
