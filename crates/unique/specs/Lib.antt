pub mod Merged
pub mod Choice
pub mod Lengths
