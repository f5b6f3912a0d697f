pub mod Runs
pub mod Ties
pub mod Spans
