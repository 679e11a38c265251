-- What private functions promise.
pub mod Visits
