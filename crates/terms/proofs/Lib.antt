pub mod Order
pub mod Vars
