pub mod AuditLine
pub mod Buffers
pub mod JobLine
pub mod Line
pub mod Loaded
