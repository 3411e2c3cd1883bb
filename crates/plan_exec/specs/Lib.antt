pub mod RunTables
pub mod RunPairs
pub mod Scanned
pub mod Runs
