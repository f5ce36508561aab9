pub mod Covered
pub mod Watches
pub mod Rows
pub mod Watching
pub mod Looks
