-- The parts of a list of terms are its irreducible factors over GF(2), among polynomials with any exponents.
pub mod Products
pub mod Factors
pub mod Parts
