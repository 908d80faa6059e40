-- What contracts of private functions alone speak of.
pub mod Indexed
pub mod Meeting
pub mod Reads
pub mod Shortages
pub mod Stretches
pub mod Telling
