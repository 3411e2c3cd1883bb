-- The faults of feature expressions as those of a text.
use Rattle.feature_expr.specs.declared.parse.Fault.{Fault}
use Rattle.feature_expr.specs.declared.parse.Fault.TheVariants as expr_fault
use Rattle.query_parser.specs.declared.fault.ParseFault.{ParseFault}
use Rattle.query_parser.specs.declared.fault.ParseFault.TheVariants as fault

-- a fault of an expression as one of the text
abbrev pub fault_of : Fault → ParseFault
fault_of (expr_fault.Syntax at) = fault.Syntax at
fault_of (expr_fault.TooDeep at) = fault.TooDeep at
fault_of (expr_fault.UnknownFeature at) = fault.UnknownFeature at
fault_of expr_fault.Memory = fault.Memory
