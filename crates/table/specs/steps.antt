pub mod Kept
pub mod StoredChains
pub mod Search
pub mod Walking
