pub mod Heads
pub mod Endpoints
pub mod Routes
pub mod Fields
pub mod EndpointRequests
pub mod Queries
pub mod Inbox
pub mod Laws
