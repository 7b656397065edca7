pub mod NTriples
pub mod Spelling
pub mod Export
pub mod Topics
pub mod ExportWrites
pub mod Holdings
