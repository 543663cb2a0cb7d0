pub mod Somewhere
pub mod Search
pub mod Verdicts
pub mod Making
pub mod RunAnswers
