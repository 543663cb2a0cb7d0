pub mod Cases
pub mod WideLaws
pub mod Loaded
