pub mod Command
pub mod CommandForms
