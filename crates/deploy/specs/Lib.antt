pub mod Deploy
pub mod Turn
pub mod Work
