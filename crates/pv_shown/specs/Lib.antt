pub mod Commands
pub mod Shown
pub mod Views
pub mod Recorded
