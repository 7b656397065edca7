pub mod PostingFile
pub mod RecordReading
pub mod RowReading
pub mod Outcomes
pub mod WholeInput
pub mod RepeatedPost
pub mod OneFile
