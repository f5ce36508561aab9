pub mod FaultTexts
pub mod Cycles
pub mod Unrolled
