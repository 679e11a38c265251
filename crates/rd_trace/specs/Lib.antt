pub mod Ways
pub mod Steps
pub mod Traces
pub mod Reasons
pub mod Laws
pub mod Internal
