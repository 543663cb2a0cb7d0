pub mod OneByOne
pub mod Parts
pub mod ValueTexts
pub mod HeldSlots
pub mod Processes
pub mod Queued
pub mod Lengths
pub mod ShownFacts
