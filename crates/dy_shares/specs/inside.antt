-- What contracts of private functions alone speak of.
pub mod Agreeing
pub mod Growth
pub mod Parts
pub mod Said
