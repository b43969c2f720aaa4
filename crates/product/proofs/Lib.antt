pub mod Passing
pub mod Algebra
