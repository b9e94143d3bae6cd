pub mod EffectiveType
pub mod Searches
