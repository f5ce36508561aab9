pub mod Refuting
pub mod Choosing
pub mod SixStarts
pub mod BestStart
pub mod Hunting
pub mod Spending
pub mod Opening
pub mod Finding
pub mod Keeping
pub mod Halving
pub mod Stepping
pub mod ExampleFacts
pub mod ExampleLeastFacts
pub mod StepFacts
pub mod ShortageFacts
mod AnswerFacts
mod BracketFacts
mod StartFacts
mod SearchFacts
mod LowFacts
