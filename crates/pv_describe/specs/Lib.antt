pub mod Bounds
pub mod Describing
pub mod DescribingParts
