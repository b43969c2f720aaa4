pub mod Ends
pub mod Checking
