pub mod Sizes
pub mod Answers
