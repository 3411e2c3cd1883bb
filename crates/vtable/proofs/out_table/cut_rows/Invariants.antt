use Rattle.std.proofs.Common.{◌≡◌, map}
use Rattle.std.specs.Prelude.{IfSome}
use Rattle.std.specs.List.{filter_map}
use Rattle.vtable.specs.Passes.{IsDecision, row_staying, table_row}
use Rattle.vtable.proofs.out_table.cut_rows.Given as goal

abbrev pub invariant-loop-row : goal.invariant-loop-row
invariant-loop-row l = record {
  cut : map table_row l.cut.items ≡ filter_map (row_staying l.model l.columns) l.yielded;
  decided : IfSome l.decision (λ decision. IsDecision l.model l.columns decision);
}
