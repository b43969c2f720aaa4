pub mod Bit
pub mod Width
