pub mod CostLaws
pub mod FateLaws
pub mod InsertLaws
pub mod NameLaws
pub mod PresentLaws
pub mod TouchLaws
pub mod WrittenLaws
