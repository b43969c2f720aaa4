-- The laws of equations as they are typed. None of them names a number of variables, terms or bytes but the 100 of two digits.
pub mod Pieces
pub mod Steps
pub mod Lossless
pub mod Forward
pub mod Completes
pub mod Shows
pub mod Decides
pub mod Once
pub mod Taken
pub mod Rearranging
pub mod Left
pub mod Held
