pub mod Examples
pub mod Walks
pub mod WordSteps
pub mod LineSteps
pub mod Texts
