pub mod Own
pub mod Endings
