pub mod Parts
pub mod Numbers
pub mod Tables
pub mod Pads
pub mod Pieces
