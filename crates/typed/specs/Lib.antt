pub mod Form
pub mod Shown
pub mod Distinct
pub mod Says
pub mod Order
pub mod Machine
