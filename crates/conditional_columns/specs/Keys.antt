-- Names and kinds of columns as keys of an ordered map, and the place of each in a list.
use Rattle.std.specs.Prelude.{ℕ, suc, ◌==◌, ◌&&◌, Bool, List, [], ◌∷◌, Option, Some, None, option_map, if◌then◌else◌}
use Rattle.std.specs.Ordering.{nat_cmp, ordering_then}
use Rattle.std.specs.Option.{option_cmp}
use Rattle.std.specs.declared.cmp.Ordering.{Ordering}
use Rattle.std.specs.Cmp.Lexicographic.{slice_cmp}
use Rattle.values.specs.declared.value.Kind.{Kind}
use Rattle.values.specs.declared.value.Kind.TheVariants as kind
use Rattle.plain_relation.specs.Relations.{same_name}
use Rattle.query_meaning.specs.declared.typed.TypedColumn.{TypedColumn}
use Rattle.conditional_columns.specs.declared.settling.ColumnKey.{ColumnKey}

abbrev pub kind_number : Kind → ℕ
kind_number kind.Int = 0
kind_number kind.Text = 1
kind_number kind.Bool = 2

abbrev pub key_for : TypedColumn → ColumnKey
key_for column = record { name = column.name; kind = kind_number column.kind }

-- the order of keys: names by prefix and base, then kinds
abbrev pub key_cmp : ColumnKey → ColumnKey → Ordering
key_cmp one other =
    ordering_then (ordering_then (option_cmp (slice_cmp nat_cmp) one.name.prefix other.name.prefix) (slice_cmp nat_cmp one.name.base other.name.base)) (nat_cmp one.kind other.kind)

abbrev pub is_key : ColumnKey → TypedColumn → Bool
is_key key column = same_name key.name column.name && (key.kind == kind_number column.kind)

-- the place of the first column with this key
abbrev pub key_place : ColumnKey → List TypedColumn → Option ℕ
key_place key [] = None
key_place key (column ∷ columns) = if is_key key column then Some 0 else option_map suc (key_place key columns)
