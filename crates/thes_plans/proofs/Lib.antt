pub mod ReferenceLemmas
pub mod ResolvingLemmas
pub mod PlanLemmas
pub mod PlanLawLemmas
pub mod PlanOutcomeLemmas
pub mod EntryLemmas
