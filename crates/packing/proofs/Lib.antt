pub mod Packed
mod FiveFacts
mod BelowFacts
