-- What contracts of private functions alone speak of.
pub mod Calls
pub mod Copies
pub mod Pasts
