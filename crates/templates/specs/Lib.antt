pub mod Views
pub mod Outputs
