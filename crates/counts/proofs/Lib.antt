-- Why the counters are right: the adders, the terms that are counted, the planes as numbers, their products, and what they tell.
pub mod Digits
pub mod Terms
pub mod Planes
pub mod Words
pub mod Products
pub mod Comparing
