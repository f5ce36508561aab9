pub mod Skies
pub mod Overloads
pub mod Standing
pub mod Places
pub mod Carried
pub mod Skylines
pub mod Loads
pub mod LowsOf
