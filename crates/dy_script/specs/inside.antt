-- What contracts of private functions alone speak of.
pub mod Documents
pub mod Fields
pub mod Keys
pub mod Readings
pub mod Streams
