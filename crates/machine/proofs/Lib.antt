pub mod FirstRows
pub mod Determined
