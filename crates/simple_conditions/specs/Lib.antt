pub mod Known
pub mod Simpler
