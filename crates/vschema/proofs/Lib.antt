pub mod AnswerLaws
pub mod EntryLaws
mod ExpressionLaws
pub mod FileLaws
pub mod FormedLaws
pub mod GrammarLaws
pub mod HeadLaws
mod ProgramEntries
mod ProgramParts
mod Programs
pub mod TableLaws
pub mod ViableLaws
