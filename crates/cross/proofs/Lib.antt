-- Why each answer of the four-list test and the cross test is right: one law for each place where they answer or ask on.
pub mod Uncut
pub mod Lent
pub mod Halved
pub mod Ways
pub mod Shapes
