pub mod Table
pub mod Ends
pub mod Checked
