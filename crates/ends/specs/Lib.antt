pub mod Words
pub mod Items
pub mod Sections
pub mod Ends
