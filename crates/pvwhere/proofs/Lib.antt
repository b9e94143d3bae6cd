pub mod TokenLemmas
pub mod PlaceLemmas
pub mod AnswerLemmas
pub mod OneLemmas
pub mod CauseLemmas
