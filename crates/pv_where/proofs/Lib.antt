pub mod Walking
pub mod Ending
pub mod Leading
pub mod LineLaw
mod Examples
