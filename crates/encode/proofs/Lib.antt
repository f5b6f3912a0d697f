pub mod Words
pub mod Pathing
pub mod PathWalk
pub mod Routes
pub mod Coding
pub mod Readings
pub mod Delivery
