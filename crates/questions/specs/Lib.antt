pub mod Ends
pub mod Foreign
pub mod Leaves
pub mod Scopes
pub mod Written
pub mod asked
pub mod boxes
pub mod steps
