pub mod Answers
pub mod Arrays
pub mod Faults
pub mod Packed
pub mod Plans
