pub mod ViewLemmas
pub mod PostingListLemmas
pub mod ConceptLemmas
pub mod OneViewLemmas
