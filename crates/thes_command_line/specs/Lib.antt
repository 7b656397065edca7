pub mod Opening
pub mod Trouble
pub mod Printing
pub mod EarlyExit
pub mod Commands
pub mod CommandLine
pub mod StartFailure
