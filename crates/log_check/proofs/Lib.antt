pub mod Options
pub mod Narrowed
pub mod Taken
pub mod TakenUpTo
pub mod Texts
pub mod AcceptedLogs
pub mod Ends
mod ExampleFacts
mod TakenFacts
mod TextFacts
