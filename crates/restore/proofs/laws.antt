pub mod commands
pub mod sections
pub mod listings
pub mod CallLaws
