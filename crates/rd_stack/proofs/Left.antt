-- What is left of a fresh list without some boxes.
pub mod Bared
pub mod Onlies
pub mod Rests
pub mod StepsLeft
pub mod Pruned
pub mod Cuts
pub mod Alone
pub mod Bare
pub mod Drawn
