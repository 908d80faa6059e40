pub mod Siblings
pub mod Sizes
pub mod Versions
pub mod inside
