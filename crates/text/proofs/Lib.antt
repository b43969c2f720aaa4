-- The laws of the two calls of text.
pub mod Writing
pub mod Reading
pub mod RoundTrip
pub mod Examples
