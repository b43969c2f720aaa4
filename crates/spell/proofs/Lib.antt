-- The laws of terms spelled as text.
pub mod Lowest
pub mod Spelling
pub mod Sizes
pub mod Longest
