-- Boxes where they are laid out and where they are drawn.
pub mod Laid
pub mod Rows
pub mod Near
pub mod Again
pub mod Fits
pub mod Kept
pub mod Shown
pub mod Views
pub mod Added
pub mod Draws
pub mod Results
pub mod Done
pub mod Ends
pub mod Still
pub mod Moves
pub mod Moved
pub mod Scrolls
