pub mod Split
pub mod Lent
