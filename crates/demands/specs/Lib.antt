pub mod Told
pub mod Room
pub mod Boards
