pub mod Held
pub mod Faults
pub mod Calls
pub mod MemoryState
pub mod Seen
pub mod Paths
pub mod Drafts
