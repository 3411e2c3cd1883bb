pub mod FitLaws
pub mod TypeLaws
pub mod WriteLaws
