pub mod AcceptedLaws
pub mod WrittenLaws
pub mod HeadlineLaws
pub mod ReachedLaws
pub mod WholeLaws
