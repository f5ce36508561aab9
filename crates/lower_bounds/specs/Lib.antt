pub mod Stacks
pub mod Tallies
pub mod Best
pub mod BoundMoment
