pub mod PlanPostings
