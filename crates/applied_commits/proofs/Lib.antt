pub mod AdvanceLaws
pub mod NewestLaws
