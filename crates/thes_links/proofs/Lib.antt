pub mod NumberLemmas
mod NodeSetLemmas
pub mod StepLemmas
pub mod ReachLemmas
pub mod PivotLemmas
pub mod WeightLemmas
pub mod ReadLemmas
pub mod CountLemmas
pub mod EditLemmas
mod WalkLemmas
pub mod NormLemmas
pub mod SetLemmas
pub mod ContractLemmas
mod NextNodeLemmas
pub mod WordLemmas
pub mod ClassLemmas
