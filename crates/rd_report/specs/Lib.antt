pub mod Words
pub mod Answers
pub mod Dumps
pub mod Summaries
pub mod Pictures
pub mod Tiles
