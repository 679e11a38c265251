-- What the edits that regroup boxes have to touch.
pub mod Nearest
pub mod Climbs
pub mod Blends
pub mod Marks
pub mod Regroups
pub mod Alike
