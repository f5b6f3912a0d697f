pub mod Commands
pub mod Reading
pub mod Ahead
pub mod Cursor
