pub mod Joining
pub mod Growing
pub mod Ending
