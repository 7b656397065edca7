pub mod ReadyLemmas
pub mod NewStoreLemmas
pub mod ServedLemmas
pub mod StoreRunLemmas
pub mod StoreFileLemmas
pub mod JobFileLemmas
