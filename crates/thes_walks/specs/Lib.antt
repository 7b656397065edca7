pub mod EditChecks
pub mod Ends
pub mod SideSearch
pub mod PairedSearch
