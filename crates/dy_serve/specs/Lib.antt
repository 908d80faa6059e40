pub mod Answers
pub mod Below
pub mod Closings
pub mod InputLines
pub mod Refusals
pub mod Served
pub mod inside
