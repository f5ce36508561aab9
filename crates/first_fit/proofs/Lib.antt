pub mod Seating
pub mod Climbing
pub mod Spanning
pub mod Gaps
pub mod Sweeping
pub mod Fitting
pub mod Keys
pub mod Ordering
pub mod Starting
mod ExampleFacts
mod StartFacts
mod SeatFacts
