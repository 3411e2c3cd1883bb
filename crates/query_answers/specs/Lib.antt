pub mod Answering
pub mod Answers
pub mod Held
pub mod Openings
pub mod Retyped
pub mod Scans
pub mod SimplerRows
