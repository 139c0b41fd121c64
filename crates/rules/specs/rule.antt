pub mod Actions
pub mod Allows
pub mod Crossing
pub mod Needs
pub mod Readable
pub mod Rules
