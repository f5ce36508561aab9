pub mod Decided
mod FiveFacts
mod SolveFacts
pub mod LeastFacts
