pub mod Judging
pub mod Seating
