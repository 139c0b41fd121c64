pub mod NextLaws
pub mod LineLaws
