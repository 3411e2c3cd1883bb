-- Lists of columns, taken as sets of pairs of name and kind: which columns and names are among them, how two lists are
-- put together without repeats, and what an alias makes of the names.
use Rattle.std.specs.Prelude.{ℕ, Bool, ◌&&◌, List, [], ◌∷◌, ◌++◌, map, filter, fold, Some, None, if◌then◌else◌}
use Rattle.std.specs.List.{list_any, list_all}
use Rattle.values.specs.declared.column_name.ColName.{ColName}
use Rattle.values.specs.declared.value.Kind.{Kind}
use Rattle.plain_relation.specs.Relations.{Column, has_name, same_name}
use Rattle.plain_relation.specs.Values.{same_kind}

abbrev pub same_column : Column → Column → Bool
same_column one other = same_name one.name other.name && same_kind one.kind other.kind

abbrev pub among : Column → List Column → Bool
among column columns = list_any (same_column column) columns

-- the columns of a name
abbrev pub named : ColName → List Column → List Column
named name columns = filter (λ (column : Column). same_name column.name name) columns

abbrev pub kinds_of : List Column → List Kind
kinds_of columns = map (λ (column : Column). column.kind) columns

-- the names that stand again behind
abbrev pub repeated : List Column → List ColName
repeated [] = []
repeated (column ∷ columns) = if has_name column.name columns then column.name ∷ repeated columns else repeated columns

-- the same columns, in whatever order
abbrev pub same_columns : List Column → List Column → Bool
same_columns left right = list_all (λ column. among column right) left && list_all (λ column. among column left) right

abbrev pub with_column : List Column → Column → List Column
with_column columns column = if among column columns then columns else columns ++ column ∷ []

-- each column where it stands first
abbrev pub once : List Column → List Column
once columns = fold with_column [] columns

-- the left columns, then those of the right ones that the left lack
abbrev pub merged : List Column → List Column → List Column
merged left right = once (left ++ right)

-- the columns, in the order of others among which they are
abbrev pub in_order_of : List Column → List Column → List Column
in_order_of order columns = filter (λ column. among column columns) order

-- The columns of two sides of which both are there. A side without columns is absent.
abbrev pub both_sides : List Column → List Column → List Column
both_sides [] right = []
both_sides left [] = []
both_sides left right = left ++ right

-- a column under another name
abbrev pub renamed : ColName → Column → Column
renamed name column = record { name = name; kind = column.kind }

-- a name behind the prefix of an alias
abbrev pub prefixed : List ℕ → ColName → ColName
prefixed alias name = record { prefix = Some alias; base = name.base }

abbrev pub aliased : List ℕ → List Column → List Column
aliased alias columns = map (λ (column : Column). renamed (prefixed alias column.name) column) columns

abbrev pub empty_name : ColName
empty_name = record { prefix = None; base = [] }

abbrev pub first_name : List Column → ColName
first_name [] = empty_name
first_name (column ∷ columns) = column.name
