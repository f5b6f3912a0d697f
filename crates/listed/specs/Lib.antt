pub mod Facts
pub mod Firsts
pub mod Keeping
pub mod Seen
pub mod Laws
