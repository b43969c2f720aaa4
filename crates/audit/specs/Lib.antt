pub mod Audit
pub mod Agree
