-- Uniqueness of parts and what follows from it.
pub mod First
pub mod Same
pub mod Merge
pub mod Factors
pub mod Counts
