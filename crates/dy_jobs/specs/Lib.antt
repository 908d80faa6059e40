pub mod Jobs
pub mod Words
