-- Lists with the same leaves, of which those that meet stand in one order.
pub mod Members
pub mod Orders
pub mod Ways
pub mod Rebuilt
pub mod Covered
