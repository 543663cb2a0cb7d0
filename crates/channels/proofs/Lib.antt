pub mod Holding
pub mod Answers
pub mod Appends
pub mod Named
pub mod Splits
