pub mod LinkLaws
pub mod NeededLaws
pub mod OnlyLaws
pub mod PassingLaws
