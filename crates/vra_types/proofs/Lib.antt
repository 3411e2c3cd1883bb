mod AlikeRows
mod Left
mod NoGaps
pub mod PassLaws
mod Steps
