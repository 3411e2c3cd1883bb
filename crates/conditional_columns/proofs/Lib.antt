mod CallLaws
pub mod Connectives
mod FewLaws
pub mod FormLaws
mod KeyLaws
pub mod ListLaws
pub mod MentionLaws
mod RepeatLaws
pub mod SettleLaws
pub mod StoredLaws
mod WaysLaws
pub mod WeightLaws
