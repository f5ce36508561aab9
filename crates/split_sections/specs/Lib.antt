pub mod PartList
pub mod Sweep
