pub mod Number
pub mod Bits
pub mod Bitwise
pub mod Bytes
pub mod Writing
