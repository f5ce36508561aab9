pub mod PartsByTime
pub mod Placements
pub mod Searches
pub mod Together
