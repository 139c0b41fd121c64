pub mod ListLaws
pub mod PacketLaws
pub mod RestsLaws
pub mod numbers
pub mod text
pub mod values
