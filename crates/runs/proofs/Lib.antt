-- Laws of what is read off runs.
pub mod Facts
