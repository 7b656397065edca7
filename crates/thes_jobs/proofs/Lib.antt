pub mod DatabaseLemmas
pub mod PreparedLemmas
pub mod OpeningLemmas
