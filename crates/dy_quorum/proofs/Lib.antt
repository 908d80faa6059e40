pub mod Firsts
pub mod Choices
pub mod Homes
pub mod Keeping
