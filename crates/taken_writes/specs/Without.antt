-- Operands that are no parameters, and what holds only such.
use Rattle.std.specs.Prelude.{◌==◌, Bool, List}
use Rattle.std.specs.List.{list_all}
use Rattle.vra_syntax.specs.Parameters.{param_in_operand}
use Rattle.vra_syntax.specs.declared.cond.Operand.{Operand}
use Rattle.vra_syntax.specs.declared.write.SetItem.{SetItem}

abbrev pub is_no_param : Operand → Bool
is_no_param operand = param_in_operand operand == 0

abbrev pub row_without : List Operand → Bool
row_without row = list_all is_no_param row

abbrev pub item_without : SetItem → Bool
item_without item = is_no_param item.value
