pub mod RowConditions
pub mod Truths
