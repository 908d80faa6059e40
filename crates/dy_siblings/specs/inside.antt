-- What contracts of private functions, and the view of a row, alone speak of.
pub mod Conflicts
pub mod Hashed
pub mod Leads
pub mod Lists
pub mod Merging
pub mod Values
