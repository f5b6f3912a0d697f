pub mod Refusals
pub mod Source
pub mod Opening
pub mod Laws
