pub mod Restyling
