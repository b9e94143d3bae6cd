pub mod Adding
pub mod Written
pub mod Shaped
mod Examples
