pub mod Shapes
pub mod Walks
