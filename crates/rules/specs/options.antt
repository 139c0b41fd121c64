pub mod Matches
pub mod Options
pub mod OptionValues
pub mod Values
