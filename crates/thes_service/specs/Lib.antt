pub mod OfficeRequests
pub mod PostingLists
pub mod Service
pub mod Laws
