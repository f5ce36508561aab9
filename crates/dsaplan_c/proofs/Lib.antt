mod ToldFacts
pub mod Giving
pub mod Laid
