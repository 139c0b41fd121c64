pub mod Fuse
pub mod FusedReader
pub mod FusedWriter
