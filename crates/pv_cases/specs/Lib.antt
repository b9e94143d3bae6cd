pub mod Cases
pub mod Suites
pub mod Views
