pub mod Section
pub mod Restore
pub mod Lines
