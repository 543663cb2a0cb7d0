pub mod Appending
pub mod Splitting
