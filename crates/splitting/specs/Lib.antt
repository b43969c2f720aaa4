pub mod Mix
