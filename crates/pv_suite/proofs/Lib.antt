pub mod Examples
pub mod RoseLemmas
pub mod FilesLemmas
pub mod CaseLemmas
pub mod WalkLemmas
pub mod ListLemmas
pub mod CauseLemmas
pub mod ClauseLemmas
