-- What contracts of private functions alone speak of.
pub mod GetParts
pub mod PutReads
pub mod Reads
