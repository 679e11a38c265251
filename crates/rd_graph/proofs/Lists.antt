-- Lists of names and of places: membership, order, and what is gathered or counted by places.
pub mod Listing
pub mod Entries
pub mod Rising
pub mod Gatherings
pub mod Countings
