pub mod Order
pub mod Width
