pub mod Cutting
pub mod GivenNumbers
pub mod Tables
pub mod ValueParts
