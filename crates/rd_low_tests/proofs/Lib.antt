pub mod DrawnLevels
pub mod Graphs
pub mod SampleLists
