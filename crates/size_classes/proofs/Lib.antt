pub mod PlainLemmas
mod TurnLemmas
mod SlotLemmas
mod SlotsAreLeast
mod PoolLemmas
mod Holding
mod Turning
mod SlotLoop
mod CountLemmas
mod Powers
mod SizeLemmas
pub mod PlanLemmas
mod RowLemmas
pub mod EqualSizes
mod ExampleFacts
mod ExampleRowFacts
