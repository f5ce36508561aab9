pub mod Cites
pub mod Endings
pub mod Keys
pub mod Logs
pub mod Overs
pub mod Tries
pub mod Trying
pub mod TwinMarks
