pub mod Carried
pub mod Ends
pub mod Made
pub mod Stored
