pub mod Internal
pub mod Items
pub mod Leaves
