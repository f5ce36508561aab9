pub mod Input
pub mod Opens
pub mod Judging
pub mod GivenLayouts
pub mod Checking
pub mod GivenLogs
