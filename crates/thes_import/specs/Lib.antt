pub mod Imports
pub mod RepeatedImport
pub mod FileImport
pub mod OneImport
