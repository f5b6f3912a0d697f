pub mod Refusals
pub mod Standing
pub mod Register
pub mod Contents
pub mod Calls
pub mod Runs
pub mod Laws
