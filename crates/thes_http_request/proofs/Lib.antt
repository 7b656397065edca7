pub mod HeadLemmas
pub mod HeadLawLemmas
pub mod InboxLemmas
mod BodyLemmas
mod EndpointRequestLemmas
mod QueryLemmas
mod HeadOutcomeLemmas
mod FieldLemmas
mod MatchLemmas
mod RouteLemmas
mod BlankLemmas
mod LineLemmas
