pub mod ReadWords
pub mod Words
pub mod Answers
pub mod Obeying
pub mod Answering
