pub mod Orders
pub mod Carried
