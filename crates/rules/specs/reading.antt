pub mod Grammar
pub mod Steps
