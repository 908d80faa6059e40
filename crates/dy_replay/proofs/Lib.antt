pub mod Counting
pub mod Agreeing
pub mod Reading
