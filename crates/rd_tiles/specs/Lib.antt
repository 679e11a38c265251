pub mod Tiling
pub mod Covering
pub mod Internal
