pub mod ConflictLaws
pub mod LogLaws
pub mod NewestLaws
pub mod OpeningLaws
pub mod SeenLaws
pub mod StepLaws
