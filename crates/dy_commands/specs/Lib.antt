pub mod Answers
pub mod Commands
pub mod Seats
pub mod Texts
pub mod Writes
