pub mod Rankings
pub mod Stacks
pub mod Meetings
pub mod Sides
