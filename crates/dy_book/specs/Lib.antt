pub mod Audits
pub mod Books
pub mod Limits
pub mod inside
