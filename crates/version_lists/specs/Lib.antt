pub mod Orders
pub mod Versions
