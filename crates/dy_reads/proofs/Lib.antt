pub mod Allowed
pub mod Lists
pub mod Readings
pub mod Tried
