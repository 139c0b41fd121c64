pub mod GrammarLaws
pub mod KeepLaws
pub mod Readable
pub mod ReadableLaws
pub mod StepLaws
