pub mod CandidateLaws
pub mod NextLaws
pub mod SearchLaws
