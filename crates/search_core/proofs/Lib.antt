pub mod Charging
pub mod Counting
pub mod Deciding
pub mod Descending
mod DescentFacts
mod ExampleFacts
mod FoundFacts
pub mod Gathering
pub mod Joining
pub mod Keeping
mod OpenedFacts
mod OutcomeFacts
pub mod Parting
pub mod Passing
mod PieceFacts
mod RefutationFacts
mod SeatFacts
pub mod Seating
pub mod Stacks
pub mod Starting
pub mod Stepping
mod TurnFacts
mod WalkFacts
mod WatchFacts
pub mod Watched
mod WayFacts
pub mod Words
