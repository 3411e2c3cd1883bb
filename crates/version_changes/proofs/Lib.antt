pub mod BlockLaws
pub mod NewestLaws
pub mod NumberLaws
pub mod OrderLaws
pub mod SeenLaws
