-- Lists of columns in which none stands again.
use Rattle.std.specs.Prelude.{Bool, true, not, ◌&&◌, List, [], ◌∷◌, ◌++◌}
use Rattle.plain_relation.specs.Relations.{Column}
use Rattle.relational_algebra.specs.Columns.{among}

-- none of the columns stands among those before it
abbrev pub fresh_behind : List Column → List Column → Bool
fresh_behind before [] = true
fresh_behind before (column ∷ columns) = not (among column before) && fresh_behind (before ++ column ∷ []) columns

abbrev pub stand_once : List Column → Bool
stand_once columns = fresh_behind [] columns
