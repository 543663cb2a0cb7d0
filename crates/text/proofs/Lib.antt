pub mod Texts
pub mod Decimals
pub mod Shortness
pub mod Hex
pub mod Words
pub mod Back
