-- The theory of splitting. It speaks of lists of natural numbers and names no width and no limit.
pub mod Mixing
pub mod Forced
pub mod Splits
pub mod Image
pub mod Picks
pub mod Products
pub mod Part
pub mod Growing
pub mod Holding
pub mod Held
