pub mod Members
pub mod Values
pub mod Styles
pub mod Boxes
pub mod Commands
pub mod Scripts
