pub mod Replies
pub mod line
pub mod run
pub mod steps
