pub mod CodeLaws
pub mod FilterLaws
pub mod UnionLaws
pub mod PlaceLaws
pub mod ChoiceLaws
pub mod ExceptLaws
pub mod FeatureLaws
pub mod SizeLaws
