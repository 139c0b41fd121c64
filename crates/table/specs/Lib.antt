pub mod chains
pub mod edits
pub mod steps
pub mod walk
