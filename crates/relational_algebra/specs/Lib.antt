pub mod Columns
pub mod Conditions
pub mod Items
pub mod Mentions
pub mod Operations
pub mod Values
