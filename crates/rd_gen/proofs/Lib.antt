pub mod Naming
pub mod Turns
pub mod Depths
pub mod Growth
pub mod Fitting
pub mod FittingEdits
pub mod Unblended
