-- What contracts of private functions alone speak of.
pub mod Kept
pub mod Readings
pub mod Vouching
