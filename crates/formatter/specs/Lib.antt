pub mod Views
pub mod Reading
pub mod Fallbacks
