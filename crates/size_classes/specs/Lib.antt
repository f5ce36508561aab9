pub mod Plain
pub mod Slots
pub mod Classes
pub mod Plans
pub mod Pools
