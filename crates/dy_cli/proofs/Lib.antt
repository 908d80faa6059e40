pub mod Ending
pub mod Halting
