-- The laws of masks: numbers as sets of variables. None of them names a size of words or terms.
pub mod Bits
pub mod Reflect
pub mod Sets
pub mod Order
pub mod Lowest
pub mod Number
pub mod Low
pub mod Width
