pub mod TableLaws
pub mod ValueLaws
pub mod WordForms
