pub mod Figures
pub mod Fields
pub mod Leaves
pub mod Wires
pub mod Laws
pub mod Internal
