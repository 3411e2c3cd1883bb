pub mod BlockLaws
pub mod MoveLaws
pub mod OrderLaws
