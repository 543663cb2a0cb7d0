pub mod Telling
pub mod Naming
pub mod Going
pub mod WordLaws
pub mod LineBytes
pub mod Lengths
pub mod RunLines
pub mod Whole
