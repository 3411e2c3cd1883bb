mod BeginLaws
mod CommitLaws
mod CourseLaws
mod MoveLaws
mod PollLaws
mod QueryLaws
pub mod RunLaws
mod SessionLaws
mod ShowLaws
mod StartLaws
mod StartTextLaws
mod StatementLaws
mod UnreadLaws
mod WriteLaws
