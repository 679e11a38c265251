pub mod Pictures
pub mod Lending
pub mod Parts
pub mod Changed
pub mod Repainted
pub mod Since
pub mod Internal
