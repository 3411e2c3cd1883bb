-- Where a parameter stands opposite a name that isn't known, some name isn't known.
use Rattle.std.specs.Prelude.{Bool, true, false, not, ◌||◌, List, [], ◌∷◌}
use Rattle.std.specs.List.{list_any}
use Rattle.query_meaning.specs.Cases.{Case}
use Rattle.query_meaning.specs.ParameterKinds.{is_unknown}
use Rattle.query_meaning.specs.Parameters.{Occurrence}

abbrev pub faces_unknown : List Occurrence → Bool
faces_unknown found = list_any (λ (one : Occurrence). is_unknown one.partner) found

abbrev pub has_case : List Case → Bool
has_case [] = false
has_case (one ∷ cases) = true

abbrev pub covered : List Case → List Occurrence → Bool
covered unknown found = not (faces_unknown found) || has_case unknown
