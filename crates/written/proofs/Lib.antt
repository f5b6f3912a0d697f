pub mod Digits
pub mod Inks
pub mod Runs
pub mod Spelling
pub mod Whole
