pub mod BitRow
pub mod MarginRows
pub mod Rows
pub mod TurnedRows
pub mod steps
