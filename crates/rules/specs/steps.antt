pub mod Conditions
pub mod OptionRows
pub mod Views
pub mod Writing
