mod Examples
pub mod Lists
pub mod Places
pub mod Recording
pub mod Walks
pub mod Parting
pub mod Turns
pub mod LineSteps
