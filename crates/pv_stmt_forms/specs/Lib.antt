pub mod Statements
pub mod Parts
pub mod Externals
pub mod Units
pub mod Found
pub mod Names
pub mod RegionEnds
