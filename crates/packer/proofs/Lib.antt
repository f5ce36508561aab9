pub mod BestStart
pub mod Brief
pub mod Opening
pub mod Reaching
pub mod ExampleFacts
