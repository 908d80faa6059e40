-- What contracts of private functions alone speak of.
pub mod Entries
pub mod Held
pub mod Holders
pub mod Listed
pub mod Pasts
