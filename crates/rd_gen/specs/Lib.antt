pub mod Figures
pub mod Draws
pub mod Names
pub mod Values
pub mod Boxes
pub mod Commands
pub mod Generated
pub mod Internal
