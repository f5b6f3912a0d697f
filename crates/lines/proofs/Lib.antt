pub mod Below
pub mod Alike
pub mod Cuts
pub mod Worked
pub mod Whole
