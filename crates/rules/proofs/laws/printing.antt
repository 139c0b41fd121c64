pub mod PrintLaws
pub mod RoundLaws
pub mod RoundTripLaws
pub mod TextLaws
