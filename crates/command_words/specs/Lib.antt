pub mod Options
pub mod Roles
pub mod Forms
pub mod Pairs
pub mod Requests
pub mod FaultTexts
