mod RecordLemmas
mod RecordReadingLemmas
mod RowLemmas
pub mod RowReadingLemmas
pub mod ReportLemmas
mod WholeInputLemmas
mod LaterPostingLemmas
pub mod RepeatedPostLemmas
pub mod AnsweredRowLemmas
pub mod OneFileLemmas
