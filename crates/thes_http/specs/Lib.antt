pub mod Responses
pub mod ServiceBehaviour
pub mod Serving
pub mod Connection
pub mod ConnectionCounts
pub mod Server
pub mod Laws
pub mod Deadlines
