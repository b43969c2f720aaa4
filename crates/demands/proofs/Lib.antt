pub mod Buffers
pub mod Deployments
pub mod Written
pub mod Demands
pub mod Wrong
