pub mod Refusals
pub mod Chosen
pub mod Children
pub mod Events
pub mod Cut
pub mod Worked
pub mod Laws
