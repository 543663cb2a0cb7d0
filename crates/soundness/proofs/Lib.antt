pub mod Every
pub mod Partners
pub mod Finals
pub mod Counting
pub mod Standing
pub mod Waiting
pub mod Instructions
pub mod Whole
