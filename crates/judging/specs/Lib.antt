pub mod Judging
pub mod Drawing
