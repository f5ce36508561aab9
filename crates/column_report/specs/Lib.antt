pub mod Counts
pub mod Columns
pub mod Report
