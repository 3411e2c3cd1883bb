mod Assigned
mod Counting
mod Found
mod Nodes
pub mod PossibleLaws
pub mod SettledLaws
mod Sides
mod Splits
