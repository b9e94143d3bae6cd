pub mod ReadWords
pub mod Words
pub mod Answers
pub mod Answering
pub mod Positions
