pub mod Same
pub mod Run
pub mod Ends
pub mod Lone
