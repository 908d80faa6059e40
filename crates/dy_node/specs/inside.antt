-- What contracts of private functions alone speak of.
pub mod Agreed
pub mod Chosen
pub mod Placing
