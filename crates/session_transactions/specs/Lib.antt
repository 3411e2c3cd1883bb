pub mod Goings
pub mod Outcomes
pub mod Transactions
