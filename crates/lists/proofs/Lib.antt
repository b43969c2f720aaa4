pub mod Counting
pub mod Cutting
