pub mod RoseLemmas
pub mod FileLemmas
pub mod RunLemmas
pub mod PositionLemmas
