pub mod RowSetLemmas
pub mod DeltaAppendLemmas
pub mod LinkRowLemmas
pub mod MoveRowLemmas
pub mod ChangeLawLemmas
pub mod CellLemmas
pub mod OldRowLemmas
