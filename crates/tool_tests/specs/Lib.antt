pub mod MemFiles
pub mod MemSinks
