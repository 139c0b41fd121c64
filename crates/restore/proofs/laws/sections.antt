pub mod NameLaws
pub mod ByteLaws
pub mod CommandLaws
pub mod LineLaws
pub mod HeadlineLaws
pub mod BoxLaws
