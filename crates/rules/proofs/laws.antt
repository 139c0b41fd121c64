pub mod BoxLaws
pub mod options
pub mod printing
pub mod reading
pub mod rule
