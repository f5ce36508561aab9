pub mod Draws
pub mod Rows
pub mod Made
