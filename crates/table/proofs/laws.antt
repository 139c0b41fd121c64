pub mod chains
pub mod edits
pub mod walk
pub mod SearchLaws
