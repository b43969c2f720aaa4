pub mod Number
pub mod Bitwise
pub mod Carry
