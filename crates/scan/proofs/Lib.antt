pub mod Steps
pub mod Numerals
pub mod Products
pub mod Sums
