use Rattle.std.proofs.Common.{◌≡◌, length}
use Rattle.query_meaning.specs.WriteTyping.{assignments_of}
use Rattle.vschema.specs.Variants.{bare_name}
use Rattle.write_meaning.specs.PlainWrites.{assigned}
use Rattle.row_writes.proofs.given.listed_value.Given as goal

abbrev pub decreases-loop-name : goal.decreases-loop-name
decreases-loop-name l = length l.names

-- what the values that are left give is what all give
abbrev pub invariant-loop-name : goal.invariant-loop-name
invariant-loop-name l = assigned (assignments_of l.names l.values) (bare_name l.column) ≡ assigned (assignments_of l.fn.names l.fn.values) (bare_name l.column)
