-- Parts exist: the function that finds them is right, and computes.
pub mod Tests
pub mod Smallest
pub mod Exist
