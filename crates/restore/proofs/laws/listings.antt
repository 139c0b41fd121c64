pub mod LineLaws
pub mod MakingLaws
pub mod RoundTripLaws
pub mod PlaceLaws
