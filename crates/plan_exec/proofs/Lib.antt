pub mod StepLaws
pub mod FeatureLaws
pub mod RunLaws
pub mod ScanLaws
pub mod RunSizes
mod PairLaws
