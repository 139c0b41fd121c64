pub mod line
pub mod run
pub mod ReplyLaws
pub mod ReplyRows
