pub mod WalkLaws
pub mod DepthLaws
pub mod TableWalkLaws
pub mod CaseLaws
