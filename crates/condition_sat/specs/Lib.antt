pub mod Admitted
pub mod Asked
pub mod Possible
pub mod Samples
pub mod Search
