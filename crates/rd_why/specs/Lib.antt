pub mod Questions
pub mod After
pub mod Wording
pub mod Lines
pub mod Json
pub mod Endings
pub mod Internal
