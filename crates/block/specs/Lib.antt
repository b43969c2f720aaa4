pub mod Calls
pub mod Bitwise
