pub mod Asked
pub mod Equal
