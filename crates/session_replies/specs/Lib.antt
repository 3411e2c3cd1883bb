pub mod AnswerMessages
pub mod DataRows
pub mod Errors
pub mod Output
pub mod Pieces
pub mod Replies
pub mod Sends
pub mod Tags
