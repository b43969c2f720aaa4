pub mod Fields
pub mod Reading
pub mod Writing
pub mod Accepted
pub mod RoundTrip
pub mod Bitwise
pub mod Examples
