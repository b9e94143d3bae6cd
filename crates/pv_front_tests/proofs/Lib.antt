pub mod Begun
pub mod Declared
