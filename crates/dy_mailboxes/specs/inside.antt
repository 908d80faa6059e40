-- What contracts of private functions and invariants alone speak of.
pub mod Calls
