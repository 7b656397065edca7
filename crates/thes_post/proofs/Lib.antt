pub mod EachLemmas
pub mod ListedPostingLemmas
pub mod OnceLemmas
pub mod PostingCountLemmas
