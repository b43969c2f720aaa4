pub mod Rows
pub mod Counting
pub mod Cut
pub mod Steps
pub mod Writing
pub mod Parting
pub mod Here
