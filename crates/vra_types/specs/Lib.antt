pub mod Alike
pub mod Check
