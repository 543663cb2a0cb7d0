pub mod Listing
pub mod Answers
