pub mod Indexes
pub mod Lists
pub mod Merges
pub mod Readings
pub mod inside
