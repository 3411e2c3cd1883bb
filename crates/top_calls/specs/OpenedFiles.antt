-- Opening a file, and reading to its end.
use Rattle.std.specs.Prelude.{◌≡◌, ℕ, ◌<◌, ◌≤◌, List, ◌++◌, length, take, Option, Some, None}
use Rattle.causes.specs.Told.{IsContent}
use Rattle.std.specs.Io.KnownBytes.{Consumes, IsAtEnd, Keeps}
use Rattle.top_calls.specs.declared.source.FileGot.{FileGot}
use Rattle.top_calls.specs.declared.source.FileGot.TheVariants as got

-- a file of this name was opened at its start: it has all of its content left, where the contents are told
abbrev pub IsOpened : Option (List (List ℕ × List ℕ)) → List ℕ → Option (List ℕ) → Type 0
IsOpened None name left = Unit {0}
IsOpened (Some files) name left = (bytes : List ℕ) × IsContent (Some files) name bytes × (left ≡ Some bytes)

-- a reader has these bytes left, where it tells that
abbrev pub HasLeft : Option (List ℕ) → List ℕ → Type 0
HasLeft None bytes = Unit {0}
HasLeft (Some left) bytes = left ≡ bytes

-- a reader has more than so many bytes left, where it tells that
abbrev pub HasMore : Option (List ℕ) → ℕ → Type 0
HasMore None most = Unit {0}
HasMore (Some left) most = most < length left

-- All that a reader had left went behind the bytes that were there, or it was more than so many bytes. In other cases
-- some bytes may stand there.
abbrev pub Fills : Option (List ℕ) → ℕ → FileGot → List ℕ → List ℕ → Type 0
Fills left most got.Whole old new = (bytes : List ℕ) × HasLeft left bytes × (length bytes ≤ most) × (new ≡ old ++ bytes)
Fills left most got.TooLong old new = HasMore left most × ((bytes : List ℕ) × (new ≡ old ++ bytes))
Fills left most _ old new = (bytes : List ℕ) × (new ≡ old ++ bytes)

-- one read into a piece gave its first bytes, none only at the end; or it was an error, which is counted
abbrev pub ReadsPiece : Option (List ℕ) → Option ℕ → Option (List ℕ) → List ℕ → Type 0
ReadsPiece left None left' piece = Keeps left left'
ReadsPiece left (Some count) left' piece = Consumes left left' (take count piece) × (count ≤ length piece) × (count ≡ 0 → 0 < length piece → IsAtEnd left')
