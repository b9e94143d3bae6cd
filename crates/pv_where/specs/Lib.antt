pub mod SourceLines
pub mod Spots
pub mod Texts
pub mod Laws
