pub mod Clipping
pub mod Standing
