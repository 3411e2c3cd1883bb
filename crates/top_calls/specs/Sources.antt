-- What a source of files means, and what a read of a file leaves.
use Rattle.std.specs.Prelude.{◌≡◌, ℕ, ◌<◌, ◌≤◌, Bool, true, false, List, Option, Some, None, ◌++◌, length}
use Rattle.causes.specs.Faults.{Rose}
use Rattle.causes.specs.Told.{IsContent}
use Rattle.top_calls.specs.declared.source.FileGot.{FileGot}
use Rattle.top_calls.specs.declared.source.FileGot.TheVariants as got

-- the files with their contents, where they are told, a count of faults, and whether a read of a name can never fail
pub record Files : Type 0 where
  pub contents : Option (List (List ℕ × List ℕ))
  pub faults : ℕ
  pub is_sure : List ℕ → Bool

-- a read of this name may fail
abbrev pub MayFail : Files → List ℕ → Type 0
MayFail files name = files.is_sure name ≡ false

-- no read of these two can fail
abbrev pub AreSure : Files → List ℕ → List ℕ → Type 0
AreSure files one other = (files.is_sure one ≡ true) × (files.is_sure other ≡ true)

-- a file of this name has more than so many bytes, where the contents are told
abbrev pub IsLong : Option (List (List ℕ × List ℕ)) → List ℕ → ℕ → Type 0
IsLong None name most = Unit {0}
IsLong (Some files) name most = (bytes : List ℕ) × IsContent (Some files) name bytes × (most < length bytes)

-- the greatest length of a file that the program reads, in bytes
abbrev pub file_limit : ℕ
file_limit = 268435456

-- a read of the file `name`, of at most so many bytes, behind the bytes `old`
abbrev pub Reads : Files → List ℕ → ℕ → FileGot → List ℕ → List ℕ → Type 0
Reads files name most got.Whole old new =
    (bytes : List ℕ) × IsContent files.contents name bytes × (length bytes ≤ most) × (new ≡ old ++ bytes)
Reads files name most got.TooLong old new = IsLong files.contents name most × (new ≡ old)
Reads files name most got.Failed old new = MayFail files name × (new ≡ old)
Reads files name most got.Memory old new = new ≡ old

-- the count of faults rises at a failed read, and stays as it was at every other answer
abbrev pub CountsRead : FileGot → ℕ → ℕ → Type 0
CountsRead got.Whole before after = after ≡ before
CountsRead got.TooLong before after = after ≡ before
CountsRead got.Failed before after = Rose before after
CountsRead got.Memory before after = after ≡ before

-- no call changes the contents, nor which reads are sure, and no count falls
pub record Lasts (before after : Files) : Type 0 where
  pub same : after.contents ≡ before.contents
  pub sure : after.is_sure ≡ before.is_sure
  pub later : before.faults ≤ after.faults
