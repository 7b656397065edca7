pub mod References
pub mod Resolving
pub mod Plans
pub mod Entries
pub mod Laws
pub mod Reports
