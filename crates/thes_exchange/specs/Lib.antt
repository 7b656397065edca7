pub mod ViewTexts
pub mod PostingList
pub mod ConceptMembers
pub mod PostingMembers
pub mod ViewOf
pub mod QueryAnswers
pub mod Laws
