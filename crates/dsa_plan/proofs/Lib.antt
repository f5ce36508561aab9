pub mod Sums
pub mod Faulty
pub mod Failing
pub mod Growing
pub mod Capacities
pub mod Answering
pub mod WithinMore
mod AnswersFacts
mod ArraysFacts
mod PlansFacts
