pub mod Walking
pub mod Rows
pub mod Turns
pub mod Telling
