pub mod Carried
pub mod Cores
pub mod Found
pub mod Looking
