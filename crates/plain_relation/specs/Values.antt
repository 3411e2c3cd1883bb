-- The order of values, and when two kinds are one.
use Rattle.std.specs.Prelude.{Bool, true, false, if◌then◌else◌}
use Rattle.std.specs.Ordering.{nat_cmp, int_cmp}
use Rattle.std.specs.declared.cmp.Ordering.{Ordering}
use Rattle.std.specs.declared.cmp.Ordering.TheVariants.{Less, Greater}
use Rattle.std.specs.Cmp.Lexicographic.{slice_cmp}
use Rattle.values.specs.declared.value.Kind.{Kind}
use Rattle.values.specs.declared.value.Kind.TheVariants as kind
use Rattle.values.specs.declared.value.Value.{Value}
use Rattle.values.specs.declared.value.Value.TheVariants as value

abbrev pub same_kind : Kind → Kind → Bool
same_kind kind.Int kind.Int = true
same_kind kind.Text kind.Text = true
same_kind kind.Bool kind.Bool = true
same_kind _ _ = false

-- Integers are ordered by value, texts by their bytes, and false is before true. Integers are before texts, and texts
-- before truth values.
abbrev pub value_cmp : Value → Value → Ordering
value_cmp (value.Int one) (value.Int other) = int_cmp one other
value_cmp (value.Int one) _ = Less
value_cmp (value.Text one) (value.Int other) = Greater
value_cmp (value.Text one) (value.Text other) = slice_cmp nat_cmp one other
value_cmp (value.Text one) (value.Bool other) = Less
value_cmp (value.Bool one) (value.Bool other) = nat_cmp (if one then 1 else 0) (if other then 1 else 0)
value_cmp (value.Bool one) _ = Greater
