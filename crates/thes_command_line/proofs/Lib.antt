pub mod CommandLineLemmas
pub mod ReadingLemmas
pub mod ArgumentWalkLemmas
pub mod CompletingLemmas
pub mod LimitLemmas
pub mod PrintLemmas
