pub mod Listed
pub mod Passing
pub mod Judging
pub mod Determined
