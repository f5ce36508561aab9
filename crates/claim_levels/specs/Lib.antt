pub mod Children
pub mod Firsts
pub mod Levels
pub mod Lifted
pub mod Placings
pub mod Raisings
pub mod Trails
