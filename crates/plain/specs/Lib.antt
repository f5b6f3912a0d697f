pub mod Rules
pub mod Texts
pub mod Slots
pub mod Laws
pub mod Reading
