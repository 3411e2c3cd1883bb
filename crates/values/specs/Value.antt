use Rattle.values.specs.declared.value.Kind.{Kind}
use Rattle.values.specs.declared.value.Kind.TheVariants as kind
use Rattle.values.specs.declared.value.Value.{Value}
use Rattle.values.specs.declared.value.Value.TheVariants as value

-- the kind of a value
abbrev pub kind_of : Value → Kind
kind_of (value.Int number) = kind.Int
kind_of (value.Text text) = kind.Text
kind_of (value.Bool truth) = kind.Bool
