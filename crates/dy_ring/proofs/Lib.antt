pub mod Deriving
pub mod Making
pub mod Pairs
pub mod Searching
