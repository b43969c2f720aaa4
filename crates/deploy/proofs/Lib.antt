pub mod Passing
pub mod Answers
pub mod Boards
pub mod Turns
pub mod Determined
