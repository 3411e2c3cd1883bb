pub mod Answers
pub mod TablesAfter
