pub mod BlankLaws
pub mod ChainForms
pub mod GrammarLaws
pub mod PlaceLaws
pub mod QuoteLaws
pub mod StandLaws
pub mod TokenLaws
