pub mod Passes
pub mod inside
