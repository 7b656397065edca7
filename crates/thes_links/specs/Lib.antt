pub mod Side
pub mod Reading
pub mod Steps
pub mod LinkEdit
pub mod Rules
pub mod NodeSet
pub mod GraphView
pub mod Words
