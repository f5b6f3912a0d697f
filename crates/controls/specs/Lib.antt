pub mod Views
pub mod Steps
pub mod Halves
pub mod Parts
