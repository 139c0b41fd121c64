pub mod Cut
pub mod Line
pub mod Number
pub mod Printed
pub mod Tap
pub mod WordSlice
pub mod Words
