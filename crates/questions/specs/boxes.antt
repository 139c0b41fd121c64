pub mod Calls
pub mod Cut
pub mod Boxes
pub mod Said
