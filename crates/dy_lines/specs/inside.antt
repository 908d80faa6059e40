-- What contracts of private functions alone speak of.
pub mod Fetches
pub mod Noting
