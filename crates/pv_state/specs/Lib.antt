pub mod Words
pub mod ReadWords
pub mod Answers
pub mod Answering
