pub mod Sequence
pub mod commands
pub mod steps
pub mod sections
pub mod Calls
pub mod Changes
pub mod Listing
