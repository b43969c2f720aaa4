-- The papers' rule finds the parts of RULES 2.5.
pub mod Derivative
pub mod Halves
pub mod Separated
pub mod Listed
pub mod Factored
pub mod Cut
pub mod Joined
pub mod Converse
pub mod Rule
