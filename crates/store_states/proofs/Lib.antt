pub mod CleanLaws
pub mod FromLaws
pub mod LiveLaws
pub mod StepLaws
pub mod StoreLaws
pub mod TakenLaws
