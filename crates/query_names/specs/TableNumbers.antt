-- The numbers of tables by their names, made table by table.
use Rattle.std.specs.Prelude.{ℕ, List, Option, Some, None, if◌then◌else◌}
use Rattle.std.specs.Str.{bytes_eq}

-- what stands under a name once a number was put under another, if none was there
abbrev pub first_number : List ℕ → ℕ → List ℕ → Option ℕ → Option ℕ
first_number name number asked (Some earlier) = Some earlier
first_number name number asked None = if bytes_eq name asked then Some number else None
