pub mod Words
pub mod Answers
pub mod Clauses
pub mod Causes
pub mod Answering
