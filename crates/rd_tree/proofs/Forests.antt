-- Facts about forests.
pub mod Under
pub mod Without
pub mod Restoring
pub mod Staying
pub mod EachBranch
pub mod Heights
pub mod Subtrees
pub mod Parent
pub mod ByKey
pub mod All
