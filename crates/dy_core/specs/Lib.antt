pub mod Worlds
pub mod Covers
pub mod Steps
pub mod Logs
pub mod Orders
pub mod Listings
pub mod Answers
pub mod inside
