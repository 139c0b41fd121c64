pub mod Meaning
pub mod UsualText
