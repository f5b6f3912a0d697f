pub mod Cuts
pub mod MarkSteps
pub mod PathSteps
pub mod PathWhole
pub mod Strides
