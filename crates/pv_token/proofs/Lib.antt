pub mod Growing
pub mod Shortened
pub mod Telling
