-- Laws of same products: what its checks tell, and what follows from the promise.
pub mod Passing
pub mod Promise
