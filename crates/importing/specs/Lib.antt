pub mod Importing
pub mod Unrolling
