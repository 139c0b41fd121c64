pub mod Table
pub mod Sound
