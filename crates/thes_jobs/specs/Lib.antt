pub mod Databases
pub mod Trouble
pub mod PlannedWork
pub mod NewStore
pub mod Migrating
pub mod OpenStore
pub mod Opening
