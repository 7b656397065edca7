pub mod PlanPostingLemmas
pub mod PlanAssignedLemmas
pub mod PlanChangeLemmas
