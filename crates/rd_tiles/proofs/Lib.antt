pub mod Lids
pub mod Placing
pub mod Tilings
pub mod Copies
pub mod Whitening
pub mod Lines
pub mod Spans
