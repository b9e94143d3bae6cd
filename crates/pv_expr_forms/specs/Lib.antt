pub mod Follows
pub mod Reader
pub mod Known
pub mod Numbers
pub mod Parts
pub mod Answers
pub mod Spelled
pub mod Sources
