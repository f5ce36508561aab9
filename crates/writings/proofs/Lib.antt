pub mod Answering
pub mod ExampleFacts
mod AnswerFacts
