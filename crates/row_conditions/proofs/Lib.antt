mod ChainLaws
pub mod BoolLaws
pub mod FoldingLaws
pub mod NameLaws
pub mod SlotLaws
pub mod TruthLaws
pub mod TruthOn
pub mod TruthWeights
pub mod TruthFeatures
