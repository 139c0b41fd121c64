pub mod Edits
pub mod Headline
