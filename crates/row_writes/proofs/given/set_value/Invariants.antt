use Rattle.std.proofs.Common.{◌≡◌, length, map}
use Rattle.query_meaning.specs.WriteTyping.{assignment_of}
use Rattle.vschema.specs.Variants.{bare_name}
use Rattle.write_meaning.specs.PlainWrites.{assigned}
use Rattle.row_writes.proofs.given.set_value.Given as goal

abbrev pub decreases-loop-item : goal.decreases-loop-item
decreases-loop-item l = length l.items

-- what the items that are left give is what all give
abbrev pub invariant-loop-item : goal.invariant-loop-item
invariant-loop-item l = assigned (map assignment_of l.items) (bare_name l.column) ≡ assigned (map assignment_of l.fn.items) (bare_name l.column)
