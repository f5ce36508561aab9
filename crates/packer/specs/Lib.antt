pub mod Packs
pub mod Starts
pub mod Reached
