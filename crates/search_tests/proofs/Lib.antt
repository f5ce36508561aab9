mod PreparedFacts
mod SearchLowFacts
