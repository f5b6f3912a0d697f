pub mod Laid
pub mod Postfix
pub mod Cut
