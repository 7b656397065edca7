pub mod AllListedLemmas
pub mod ChangeLemmas
pub mod ListingLemmas
pub mod MemberLemmas
pub mod OrderLemmas
pub mod TestLemmas
