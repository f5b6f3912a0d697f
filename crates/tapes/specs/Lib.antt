pub mod Roots
pub mod Laid
pub mod Postfix
pub mod Nodes
pub mod Tape
