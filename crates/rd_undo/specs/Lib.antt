pub mod Figures
pub mod Inverse
pub mod Undoing
pub mod History
pub mod Internal
