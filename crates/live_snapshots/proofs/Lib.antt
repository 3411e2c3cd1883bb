pub mod LiveLaws
pub mod OldestLaws
