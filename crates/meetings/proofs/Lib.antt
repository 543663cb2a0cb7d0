pub mod Answers
pub mod Waiting
pub mod Ends
