pub mod Fault
pub mod Request
pub mod Outcome
pub mod Boxes
pub mod Executed
