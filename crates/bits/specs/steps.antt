pub mod Blocks
pub mod Held
pub mod Packing
pub mod StoredRows
pub mod Summaries
