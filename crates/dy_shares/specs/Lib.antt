pub mod Codes
pub mod Shares
pub mod Merged
pub mod Numbers
pub mod Trails
pub mod inside
