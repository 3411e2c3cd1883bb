pub mod Acting
pub mod Faults
pub mod Operands
pub mod Values
