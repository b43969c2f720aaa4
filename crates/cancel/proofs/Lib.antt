-- The laws of the merging.
pub mod Merging
pub mod Writing
pub mod Pairs
pub mod Halves
