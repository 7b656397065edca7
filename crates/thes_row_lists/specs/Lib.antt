pub mod SortedRows
pub mod RowOrder
