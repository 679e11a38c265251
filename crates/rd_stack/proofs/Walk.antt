-- What the loops of the plain program keep.
pub mod Slices
pub mod Ten
pub mod EachKind
pub mod Filters
pub mod Sorting
pub mod Going
