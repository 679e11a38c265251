pub mod Numbered
pub mod Looks
pub mod Invalid
pub mod Internal
