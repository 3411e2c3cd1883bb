pub mod LinkedPairs
pub mod Merges
