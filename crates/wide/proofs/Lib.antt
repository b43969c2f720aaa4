pub mod Blocks
pub mod Fields
