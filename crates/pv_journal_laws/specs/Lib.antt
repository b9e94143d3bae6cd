pub mod Naming
pub mod Runs
