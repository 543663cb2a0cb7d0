pub mod Joinable
pub mod Spare
