pub mod OutcomeLaws
pub mod LineLaws
pub mod BoxLaws
