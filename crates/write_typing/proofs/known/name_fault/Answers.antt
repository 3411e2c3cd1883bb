use Rattle.std.proofs.Common.{◌∙◌, ap, map, sym}
use Rattle.write_typing.proofs.FaultLaws.{first_behind, first_unknown}
use Rattle.write_typing.proofs.ValueLaws.{over_table}
use Rattle.write_typing.specs.Acting.{known_cases}
use Rattle.write_typing.specs.Faults.{first, possible}
use Rattle.write_typing.specs.Operands.{lent}
use Rattle.write_typing.specs.Values.{seat_of}
use Rattle.write_typing.proofs.known.name_fault.Goals as goal

pub returns-in-Some : goal.returns-in-Some
returns-in-Some c = first_unknown c.in-Some.fault _ _ _
    (over_table c.args.kinds.now c.args.table.now c.args.write.now c.as_slice-columns.result.now c.args.names.now (lent c.as_slice.result.now) c.as_slice-columns.ensures c.requires (ap lent c.as_slice.ensures.value ∙ c.in_ok-operands.ensures))
    c.in-Some.ensures

pub returns : goal.returns
returns c = first_behind c.in_ok-fault-in-None.fault _ _ _
    (over_table c.args.kinds.now c.args.table.now c.args.write.now c.as_slice-columns.result.now c.args.names.now (lent c.as_slice.result.now) c.as_slice-columns.ensures c.requires (ap lent c.as_slice.ensures.value ∙ c.in_ok-operands.ensures))
    c.in-None.ensures
    (c.in_ok-fault-in-None.ensures ∙ ap (λ them. first (known_cases c.args.kinds.now (map (seat_of (possible c.as_slice-columns.result.now)) c.args.names.now) c.args.names.now c.args.write.now (lent them))) (c.as_slice-in-None.ensures.value ∙ sym c.as_slice.ensures.value))
