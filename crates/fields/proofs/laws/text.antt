pub mod CutLaws
pub mod CuttingLaws
pub mod LineLaws
pub mod NumberLaws
pub mod PrintedLaws
pub mod PutLaws
pub mod WordLaws
