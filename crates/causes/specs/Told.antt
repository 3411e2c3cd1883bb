-- What an object of the outside tells. None stands for an object that tells nothing, of which nothing is claimed.
use Rattle.std.specs.Prelude.{ℕ, List, Option, Some, None, Contains}

-- the file of this name has this content, where the contents are told
abbrev pub IsContent : Option (List (List ℕ × List ℕ)) → List ℕ → List ℕ → Type 0
IsContent None name bytes = Unit {0}
IsContent (Some files) name bytes = Contains files (name, bytes)
