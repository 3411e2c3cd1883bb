mod ActingLaws
mod FaultLaws
mod OperandLaws
mod ValueLaws
