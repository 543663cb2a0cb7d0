pub mod Heads
pub mod Wanted
pub mod Stepped
