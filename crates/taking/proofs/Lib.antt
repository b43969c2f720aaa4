pub mod Copying
pub mod Clearing
pub mod Taking
pub mod Splitting
pub mod Round
pub mod Next
