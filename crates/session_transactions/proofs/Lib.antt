pub mod EndLaws
pub mod GoingLaws
