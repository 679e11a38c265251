pub mod Joining
pub mod Dumping
pub mod Painted
