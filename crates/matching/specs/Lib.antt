pub mod Ways
pub mod Best
pub mod Items
pub mod Reader
pub mod Grammar
pub mod Places
pub mod Cells
pub mod Worked
