pub mod Cases
pub mod Depth
pub mod Walk
