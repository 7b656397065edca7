pub mod PlanLemmas
mod ServeLemmas
mod WriteLemmas
pub mod SameResponseLemmas
mod ServerLemmas
pub mod AnswerLemmas
