pub mod Reaching
pub mod Fitting
pub mod Ordering
pub mod Piles
