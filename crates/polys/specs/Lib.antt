pub mod List
pub mod Poly
pub mod Parts
