pub mod Going
pub mod Openings
