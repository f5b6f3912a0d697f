pub mod Ahead
pub mod Pens
pub mod Spelled
