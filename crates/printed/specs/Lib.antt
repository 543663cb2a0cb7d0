pub mod Meaning
pub mod Words
pub mod Forwarded
pub mod Traced
