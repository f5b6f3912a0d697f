pub mod Matched
pub mod Whole
