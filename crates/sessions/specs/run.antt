pub mod Console
pub mod Session
pub mod Run
pub mod Accepted
pub mod Headline
pub mod Views
