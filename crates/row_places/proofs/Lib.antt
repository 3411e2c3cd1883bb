pub mod KeyLaws
pub mod PlaceLaws
