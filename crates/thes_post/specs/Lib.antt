pub mod Rising
pub mod PostingCounts
