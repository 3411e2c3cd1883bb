pub mod Answers
pub mod Configured
pub mod Disjunction
pub mod Passes
pub mod TableForm
