pub mod AskLaws
pub mod CrossLaws
pub mod EqualityLaws
