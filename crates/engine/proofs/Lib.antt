pub mod Tally
pub mod Counting
pub mod Returned
