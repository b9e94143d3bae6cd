pub mod Numbered
pub mod Bounds
pub mod Bytes
