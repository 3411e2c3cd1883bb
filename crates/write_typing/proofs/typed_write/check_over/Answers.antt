use Rattle.std.proofs.Common.{◌∙◌, Some, ap, sym}
use Rattle.std.specs.Option.{option_map}
use Rattle.write_typing.proofs.ActingLaws.{name_refused, typed_over}
use Rattle.write_typing.specs.Faults.{fault_case}
use Rattle.write_typing.proofs.typed_write.check_over.Goals as goal

pub returns-in-Ok-Some-clause-refused : goal.returns-in-Ok-Some-clause-refused
returns-in-Ok-Some-clause-refused c = name_refused c.args.questions.now c.args.kinds.now (Some c.args.table.now) c.args.write.now c.in-Ok-Some.fault c.refusal_of.result (ap (option_map fault_case) (sym c.in-Ok-Some.field-0-is) ∙ c.in-Ok-Some.ensures) c.refusal_of.ensures

pub returns-in-Ok-ask_acting-clause-typed : goal.returns-in-Ok-ask_acting-clause-typed
returns-in-Ok-ask_acting-clause-typed c = typed_over c.args.questions.now c.args.kinds.now (Some c.args.table.now) c.args.write.now (ap (option_map fault_case) (sym c.in-Ok-None.field-0-is) ∙ c.in-Ok-None.ensures) c.in-Ok-ask_acting.ensures.ok
