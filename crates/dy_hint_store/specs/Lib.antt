pub mod Hints
pub mod inside
