pub mod Together
pub mod Steps
