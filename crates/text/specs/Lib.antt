pub mod Calls
pub mod Found
