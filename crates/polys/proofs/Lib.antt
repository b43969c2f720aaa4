-- The laws of polynomials as lists of terms. None of them names a width or a limit.
pub mod Lists
pub mod Polys
pub mod Counts
