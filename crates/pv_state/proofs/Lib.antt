pub mod TellingLemmas
pub mod FileLemmas
pub mod PlaceLemmas
pub mod WordLemmas
