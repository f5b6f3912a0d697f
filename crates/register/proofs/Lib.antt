pub mod Storable
pub mod Listed
pub mod Outcome
pub mod Codes
pub mod Steps
pub mod Promised
