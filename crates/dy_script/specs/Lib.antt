pub mod Members
pub mod Orders
pub mod Reading
pub mod Requests
pub mod Tokens
pub mod inside
