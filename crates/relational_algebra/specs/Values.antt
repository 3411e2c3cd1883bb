-- When one value compares to another as a sign asks.
use Rattle.std.specs.Prelude.{Bool, true, false, if◌then◌else◌, Option, Some}
use Rattle.std.specs.declared.cmp.Ordering.{Ordering}
use Rattle.std.specs.declared.cmp.Ordering.TheVariants.{Less, Equal, Greater}
use Rattle.values.specs.Value.{kind_of}
use Rattle.values.specs.declared.value.Value.{Value}
use Rattle.plain_relation.specs.Values.{same_kind, value_cmp}
use Rattle.vra_syntax.specs.declared.cond.Op.{Op}
use Rattle.vra_syntax.specs.declared.cond.Op.TheVariants as op

-- whether two values stand to each other as the sign asks
abbrev pub meets_op : Op → Ordering → Bool
meets_op op.Eq Equal = true
meets_op op.Ne Less = true
meets_op op.Ne Greater = true
meets_op op.Lt Less = true
meets_op op.Le Less = true
meets_op op.Le Equal = true
meets_op op.Gt Greater = true
meets_op op.Ge Greater = true
meets_op op.Ge Equal = true
meets_op _ _ = false

-- a comparison of values of two kinds is false, whatever its sign
abbrev pub compares_values : Op → Value → Value → Bool
compares_values sign one other = if same_kind (kind_of one) (kind_of other) then meets_op sign (value_cmp one other) else false

-- and so is one in which a value is missing
abbrev pub compares : Op → Option Value → Option Value → Bool
compares sign (Some one) (Some other) = compares_values sign one other
compares sign _ _ = false
