pub mod Walking
pub mod Behind
