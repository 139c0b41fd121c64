pub mod FieldLaws
pub mod HexadecimalLaws
pub mod IntervalTextLaws
pub mod PartLaws
pub mod ReadBackLaws
pub mod SetTextLaws
pub mod ValueTextLaws
pub mod WordLaws
