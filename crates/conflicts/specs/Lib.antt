pub mod Covering
pub mod Easing
pub mod Eased
pub mod Ends
pub mod Walks
