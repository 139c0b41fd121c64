pub mod Field
pub mod Spans
