pub mod AddLaws
pub mod CommitLaws
pub mod EndLaws
pub mod PendingLaws
pub mod PlaceLaws
pub mod PutLaws
pub mod WriteLaws
