pub mod Tables
pub mod Rows
pub mod Cells
pub mod TableOrder
pub mod Changes
pub mod ChangeLaw
pub mod OldRows
