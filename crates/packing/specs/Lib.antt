pub mod Packing
pub mod Used
