-- Which entries of a list show at some pixels, and which may be passed over there.
pub mod Showing
pub mod Transparent
pub mod Passing
pub mod OffChunks
pub mod Older
pub mod Hiding
pub mod Seen
pub mod Beside
pub mod Told
