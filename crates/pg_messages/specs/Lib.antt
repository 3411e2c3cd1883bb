pub mod Back
pub mod Front
pub mod Limits
pub mod Packet
pub mod Sides
pub mod Spelling
pub mod Startup
