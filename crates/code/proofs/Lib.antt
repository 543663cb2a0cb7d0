pub mod Tables
pub mod Decoding
pub mod Listing
pub mod Determined
pub mod DecodeFacts
