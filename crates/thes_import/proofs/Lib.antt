mod BlockLemmas
mod ImportLemmas
mod RepeatedImportLemmas
mod WritingLemmas
pub mod OneImportLemmas
