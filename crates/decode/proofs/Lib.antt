pub mod Turns
pub mod Ties
pub mod Rests
pub mod Firsts
