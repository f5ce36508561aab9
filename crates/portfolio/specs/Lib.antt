pub mod Elsewhere
pub mod Trials
