pub mod CommonPlaces
pub mod Edits
pub mod Fields
pub mod Kept
pub mod Pieces
