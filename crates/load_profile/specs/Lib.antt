pub mod LoadProfile
