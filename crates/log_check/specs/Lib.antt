pub mod Faults
pub mod Narrowing
pub mod Taking
pub mod FaultTexts
