pub mod Absorbing
pub mod Counters
pub mod Kept
pub mod Rows
pub mod inside
