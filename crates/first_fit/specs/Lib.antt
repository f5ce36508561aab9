pub mod Seats
pub mod Free
pub mod Rules
pub mod Orders
pub mod Starts
