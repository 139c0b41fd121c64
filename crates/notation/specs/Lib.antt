pub mod IntervalText
pub mod Range
pub mod Rows
pub mod SetText
pub mod ValueText
pub mod Words
pub mod steps
