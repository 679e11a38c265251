-- A patch by the places of nodes: the lists that change, the nodes that are made, and what the whole is of the old graph.
pub mod PutInPlace
pub mod MadeNodes
pub mod Merged
pub mod ListsAt
pub mod Marks
pub mod Late
pub mod Quiet
pub mod Numbers
pub mod SeenAt
pub mod Along
pub mod Namings
pub mod Kinds
pub mod AskedPlaces
pub mod Thinned
