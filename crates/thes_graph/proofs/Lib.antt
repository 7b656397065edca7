mod LinkOrderLemmas
mod IndexLemmas
mod CountLemmas
mod FirstEndLemmas
mod LookUpLemmas
mod MarkLemmas
mod ChangeLemmas
mod RedirectLemmas
mod MergeAdditionLemmas
mod MappingLemmas
mod ReaderLemmas
mod WholeLemmas
mod CycleSearchLemmas
mod UpperSetLemmas
mod S27Lemmas
mod PartLemmas
pub mod LinkUndoLemmas
