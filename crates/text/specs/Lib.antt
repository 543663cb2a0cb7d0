pub mod Written
pub mod Digits
pub mod Read
pub mod Page
