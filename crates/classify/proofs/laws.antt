pub mod classifier
pub mod line
pub mod search
