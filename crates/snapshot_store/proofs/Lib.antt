pub mod AppendLaws
pub mod BeginLaws
pub mod CommitLaws
pub mod FreshLaws
pub mod OpenLaws
pub mod ReadLaws
pub mod StandLaws
