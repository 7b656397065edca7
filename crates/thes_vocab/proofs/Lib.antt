pub mod OwnLabelLemmas
mod LabelTableLemmas
mod AnswerLemmas
mod ConceptListLemmas
mod IriLemmas
mod LabelCheckLemmas
mod NameLemmas
mod ConsistencyLemmas
mod LexicalLabelLemmas
pub mod MergedRowLemmas
mod ForwardingLemmas
mod LoadingLemmas
pub mod SetUndoLemmas
mod TakingBackLemmas
mod OutsideUndoLemmas
mod DeathUndoLemmas
mod LabelUndoLemmas
