-- The law of the merge: one level, how levels are put together, and that the whole stands for the fresh list.
pub mod Named
pub mod Levelling
pub mod OneLevel
pub mod Onces
pub mod Routing
pub mod Alikes
pub mod Ordering
pub mod Whole
pub mod Narrowing
pub mod Nesting
pub mod Naming
pub mod Linear
pub mod Fitting
pub mod Numbered
pub mod Assembling
pub mod Picking
pub mod Starting
