pub mod OwnRows
pub mod Shared
