pub mod ObeyLemmas
pub mod RunLemmas
pub mod FileLemmas
pub mod CheckLemmas
pub mod CauseLemmas
pub mod WordsLemmas
