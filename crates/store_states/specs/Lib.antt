pub mod Promises
pub mod Reads
pub mod Steps
pub mod Stored
pub mod Views
