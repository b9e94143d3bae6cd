pub mod Words
pub mod Places
pub mod Answers
pub mod Answering
